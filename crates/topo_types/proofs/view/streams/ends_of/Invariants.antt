use Rattle.std.proofs.Common.{◌≡◌, map, take}
use Rattle.topo_forms.specs.Sites.{port_end}
use Rattle.topo_types.specs.Code.Built.{sites_seen}
use Rattle.topo_types.proofs.view.streams.ends_of.Given as goal

abbrev pub invariant-loop-spot : goal.invariant-loop-spot
invariant-loop-spot l = l.ends.items ≡ map (port_end (sites_seen l.sites)) (take l.spot-index l.spots)
