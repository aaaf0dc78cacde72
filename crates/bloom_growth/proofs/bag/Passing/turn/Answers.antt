use Rattle.std.proofs.Common.{◌≡◌, ◌≤◌, List, length, inl, inr, sym, subst, arith}
use Rattle.blz_value.specs.Record.{Row}
use Rattle.blz_set.proofs.Unions.{handed_on}
use Rattle.blz_set.specs.RecordSet.{row_limit}
use Rattle.bloom_growth.specs.Bags.{left_rows, entered_rows}
use Rattle.bloom_growth.specs.Growth.{Extends}
use Rattle.bloom_growth.specs.Turned.{TurnsInto}
use Rattle.bloom_growth.proofs.BagsLemmas.{turned_plain, turned_both, few_left, few_entered, turn_no_fault}
use Rattle.bloom_growth.proofs.TurnedLemmas.{turn_fault}
use Rattle.bloom_growth.proofs.bag.Passing.turn.Goals as goal
use Rattle.bloom_growth.proofs.bag.Passing.turn.Goals.{then-len-eq0-via-then-len-eq0, then-len-eq0-via-else-len-eq0+then-len-eq0-2}

pub returns-in_err-left : goal.returns-in_err-left
returns-in_err-left c = λ old mid new passed.
    let found = left_rows c.args.self in
    let few : length found ≤ row_limit = omega (arith, few_left old mid new found (entered_rows c.args.self) passed.left passed.entered, passed.few_old) in
    subst (TurnsInto old new) (sym (handed_on _ c.from_residual.result c.in_err-left.field-0.0 c.from_residual.ensures.1))
    (turn_no_fault old new found c.in_err-left.field-0.0 few c.in_err-left.ensures)

pub returns-in_err-entered : goal.returns-in_err-entered
returns-in_err-entered c = λ old mid new passed.
    let found = entered_rows c.args.self in
    let few : length found ≤ row_limit = omega (arith, few_entered old mid new (left_rows c.args.self) found passed.left passed.entered, passed.few_new) in
    subst (TurnsInto old new) (sym (handed_on _ c.from_residual-in_err-entered.result c.in_err-entered.field-0.0 c.from_residual-in_err-entered.ensures.1))
    (turn_no_fault old new found c.in_err-entered.field-0.0 few c.in_err-entered.ensures)

pub returns-then-len-eq0 : goal.returns-then-len-eq0
returns-then-len-eq0 c = λ old mid new passed.
    let left = c.in_ok-left.left in
    let entered = c.in_ok-entered.entered in
    let before = subst (λ (l : List Row). Extends mid old l) (sym c.in_ok-left.ensures.0) passed.left in
    let after = subst (λ (l : List Row). Extends mid new l) (sym c.in_ok-entered.ensures.0) passed.entered in (
      turned_plain old mid new left entered before after (elim c.then-len-eq0.branch [
        | then-len-eq0-via-then-len-eq0 w ↦ let none : length left ≡ 0 = omega arith in inl none
        | then-len-eq0-via-else-len-eq0+then-len-eq0-2 w ↦ let none : length entered ≡ 0 = omega arith in inr none
      ]),
      passed.few_new,
    )

pub returns-in_err-more : goal.returns-in_err-more
returns-in_err-more c = λ old mid new passed.
    subst (TurnsInto old new) (sym (handed_on _ c.from_residual-in_err-more.result c.in_err-more.field-0.0 c.from_residual-in_err-more.ensures.1))
    (turn_fault old new c.in_ok-left.left c.in_ok-entered.entered c.in_err-more.field-0.0 c.less.ensures.set c.in_err-more.ensures.missing)

pub returns-in_err-gone : goal.returns-in_err-gone
returns-in_err-gone c = λ old mid new passed.
    subst (TurnsInto old new) (sym (handed_on _ c.from_residual-in_err-gone.result c.in_err-gone.field-0.0 c.from_residual-in_err-gone.ensures.1))
    (turn_fault old new c.in_ok-entered.entered c.in_ok-left.left c.in_err-gone.field-0.0 c.less-2.ensures.set c.in_err-gone.ensures.missing)

pub returns : goal.returns
returns c = λ old mid new passed.
    let left = c.in_ok-left.left in
    let entered = c.in_ok-entered.entered in
    let before = subst (λ (l : List Row). Extends mid old l) (sym c.in_ok-left.ensures.0) passed.left in
    let after = subst (λ (l : List Row). Extends mid new l) (sym c.in_ok-entered.ensures.0) passed.entered in
    (turned_both old mid new left entered before after c.in_ok-more.more c.in_ok-gone.gone c.in_ok-more.ensures.missing.0 c.in_ok-gone.ensures.missing.0, passed.few_new)
