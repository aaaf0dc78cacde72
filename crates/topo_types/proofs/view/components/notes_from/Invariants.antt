use Rattle.std.proofs.Common.{◌≡◌, ◌++◌, map, drop}
use Rattle.std.specs.List.{enumerate_from}
use Rattle.topo_forms.specs.ViewOf.{note_view}
use Rattle.topo_types.specs.Code.Built.{site_seen}
use Rattle.topo_types.proofs.view.components.notes_from.Given as goal

abbrev pub invariant-loop-at : goal.invariant-loop-at
invariant-loop-at l = l.row.items ++ map (note_view l.names (site_seen l.site) (l.number, l.port)) (enumerate_from l.at (drop l.at l.site.outputs)) ≡ map (note_view l.names (site_seen l.site) (l.number, l.port)) (enumerate_from 0 l.site.outputs)
