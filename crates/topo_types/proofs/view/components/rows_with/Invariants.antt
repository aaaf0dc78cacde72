use Rattle.std.proofs.Common.{◌≡◌, ◌++◌, map, drop}
use Rattle.std.specs.List.{enumerate_from}
use Rattle.topo_forms.specs.ViewOf.{note_view, notes_view}
use Rattle.topo_types.specs.Code.Built.{site_seen}
use Rattle.topo_types.proofs.view.components.rows_with.Given as goal

abbrev pub invariant-loop-number : goal.invariant-loop-number
invariant-loop-number l = l.rows.items ++ map (λ port. map (note_view l.names (site_seen l.site) port) (enumerate_from 0 l.site.outputs)) (enumerate_from l.number (drop l.number l.site.ports)) ≡ notes_view l.names (site_seen l.site)
