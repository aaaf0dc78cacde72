use Rattle.std.proofs.Common.{◌≡◌, map, take}
use Rattle.topo_forms.proofs.index.port_names.Given as goal

abbrev pub invariant-loop-port : goal.invariant-loop-port
invariant-loop-port l = map (λ name. name.now) l.names.items ≡ map (λ x. x.name) (take l.port-index l.ports)
