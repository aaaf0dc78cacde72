use Rattle.std.proofs.Common.{◌≡◌, map, take}
use Rattle.topo_forms.proofs.index.stream_names.Given as goal

abbrev pub invariant-loop-stream : goal.invariant-loop-stream
invariant-loop-stream l = map (λ name. name.now) l.names.items ≡ map (λ x. x.name) (take l.stream-index l.streams)
