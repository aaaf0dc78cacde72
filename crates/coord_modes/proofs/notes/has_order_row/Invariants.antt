-- no port so far has an O note
use Rattle.std.proofs.Common.{◌≡◌, false, take}
use Rattle.std.specs.List.{list_any}
use Rattle.topo_forms.specs.View.{component_at}
use Rattle.coord_modes.specs.Code.Notes.{has_order_in}
use Rattle.coord_modes.proofs.notes.has_order_row.Given as goal

abbrev pub invariant-loop-port : goal.invariant-loop-port
invariant-loop-port l = list_any has_order_in (take l.port (component_at l.valid.view l.component).notes) ≡ false
