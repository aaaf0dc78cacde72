use Rattle.std.proofs.Common.{◌≡◌, drop}
use Rattle.std.specs.List.{list_any}
use Rattle.topo_types.specs.Code.Built.{site_seen}
use Rattle.topo_forms.specs.Validity.OfView.{is_short}
use Rattle.topo_types.proofs.validity.of_view.any_short.Given as goal

abbrev pub invariant-loop-note : goal.invariant-loop-note
invariant-loop-note l = list_any (is_short l.names (site_seen l.site)) (drop l.note-index l.notes) ≡ list_any (is_short l.names (site_seen l.site)) l.notes
