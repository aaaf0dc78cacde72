use Rattle.std.proofs.Common.{◌≡◌, Some, sym, subst}
use Rattle.blz_boxes.proofs.Tables.{stepped_tables}
use Rattle.worked_calls.proofs.shells.step_shown.Goals as goal

pub returns-clause-kept : goal.returns-clause-kept
returns-clause-kept g c = stepped_tables _ c.args.given.now _ _ _ (subst (λ p. (g.dyn-1.0.entry p.0).1.program p.1 ≡ Some c.args.given.now) (sym c.deref_box_mut-1.ensures.value.1) c.requires.loaded) c.in_ok-step.ensures.1.1.0
