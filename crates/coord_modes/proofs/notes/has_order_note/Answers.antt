-- The walk over the rows finds each note.
use Rattle.std.proofs.Common.{sym, ◌∙◌}
use Rattle.topo_forms.specs.View.{component_at}
use Rattle.coord_modes.proofs.NoteLemmas.{order_rows}
use Rattle.coord_modes.proofs.notes.has_order_note.Goals as goal

pub returns : goal.returns
returns c = c.has_order_row.ensures ∙ sym (order_rows (component_at c.args.valid.now.view c.args.component).notes)
