-- the ends so far
use Rattle.std.proofs.Common.{◌≡◌, ◌++◌, filter, map, take}
use Rattle.blz_value.specs.Graph.{is_in}
use Rattle.topo_forms.specs.View.{End, ends_of}
use Rattle.label_walk.proofs.cycles.push_inputs.Given as goal

abbrev pub invariant-loop-n : goal.invariant-loop-n
invariant-loop-n l = l.inputs.items ≡ l.initial.inputs.items ++ map (λ (end : End). (l.stream, end)) (filter (λ (end : End). is_in end.0 l.set.bits) (take l.n (ends_of l.valid.view l.stream)))
