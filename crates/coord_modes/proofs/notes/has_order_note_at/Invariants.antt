-- none of the notes so far is O
use Rattle.std.proofs.Common.{◌≡◌, false, get_or, take, []}
use Rattle.std.specs.List.{list_any}
use Rattle.topo_forms.specs.View.{component_at}
use Rattle.coord_modes.specs.Code.Notes.{is_order_note}
use Rattle.coord_modes.proofs.notes.has_order_note_at.Given as goal

abbrev pub invariant-loop-output : goal.invariant-loop-output
invariant-loop-output l = list_any is_order_note (take l.output (get_or (component_at l.valid.view l.component).notes l.port [])) ≡ false
