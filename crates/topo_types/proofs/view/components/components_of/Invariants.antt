use Rattle.std.proofs.Common.{◌≡◌, map}
use Rattle.topo_forms.specs.ViewOf.{component_view}
use Rattle.topo_forms.specs.Kept.{component_kept}
use Rattle.topo_types.specs.Code.Built.{sites_seen}
use Rattle.topo_types.proofs.view.components.components_of.Given as goal

abbrev pub invariant-loop-site : goal.invariant-loop-site
invariant-loop-site l = map component_kept l.components.items ≡ map (component_view l.names) (sites_seen l.yielded)
