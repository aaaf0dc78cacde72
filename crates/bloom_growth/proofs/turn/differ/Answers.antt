use Rattle.std.proofs.Common.{sym, subst}
use Rattle.blz_set.proofs.Unions.{handed_on}
use Rattle.bloom_growth.specs.Turned.{TurnsInto}
use Rattle.bloom_growth.proofs.TurnedLemmas.{turn_fault}
use Rattle.bloom_growth.proofs.turn.differ.Goals as goal

pub returns-in_err-more : goal.returns-in_err-more
returns-in_err-more c =
    subst (TurnsInto c.args.before.now c.args.after.now) (sym (handed_on _ c.from_residual.result c.in_err-more.field-0.0 c.from_residual.ensures.1))
    (turn_fault c.args.before.now c.args.after.now c.args.before.now c.args.after.now c.in_err-more.field-0.0 c.less.ensures.set c.in_err-more.ensures.missing)

pub returns-in_err-gone : goal.returns-in_err-gone
returns-in_err-gone c =
    subst (TurnsInto c.args.before.now c.args.after.now) (sym (handed_on _ c.from_residual-in_err-gone.result c.in_err-gone.field-0.0 c.from_residual-in_err-gone.ensures.1))
    (turn_fault c.args.before.now c.args.after.now c.args.after.now c.args.before.now c.in_err-gone.field-0.0 c.less-2.ensures.set c.in_err-gone.ensures.missing)

pub returns : goal.returns
returns c = (
  record { old_sorted = c.less-2.ensures.set.sorted; new_sorted = c.less.ensures.set.sorted; more_is = c.in_ok-more.ensures.missing.0; gone_is = c.in_ok-gone.ensures.missing.0 },
  c.less.ensures.set.small,
)
