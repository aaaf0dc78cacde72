use Rattle.std.proofs.Common.{◌≡◌, ◌<◌, Some, length, arith, ◌∙◌, sym, subst}
use Rattle.blz_boxes.proofs.Tables.{emptied_tables}
use Rattle.worked_calls.proofs.shells.kept_and_cleared.Goals as goal

pub show_table-requires-2-clause-table : goal.show_table-requires-2-clause-table
show_table-requires-2-clause-table g c =
    let loaded = subst (λ p. (g.dyn-1.0.entry p.0).1.program p.1 ≡ Some c.args.given.now) (sym c.deref_box_mut-1.ensures.value.1) c.requires.loaded in
    let one = emptied_tables _ c.args.given.now _ loaded c.clear.ensures.1.1 ∙ c.requires.table in
    omega (arith, one)
