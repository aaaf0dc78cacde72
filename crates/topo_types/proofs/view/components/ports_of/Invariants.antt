use Rattle.std.proofs.Common.{◌≡◌, map, take}
use Rattle.topo_forms.specs.ViewOf.{port_view}
use Rattle.topo_forms.specs.Kept.{port_kept}
use Rattle.topo_types.proofs.view.components.ports_of.Given as goal

abbrev pub invariant-loop-port : goal.invariant-loop-port
invariant-loop-port l = map port_kept l.kept.items ≡ map (port_view l.names) (take l.port-index l.ports)
