use Rattle.std.proofs.Common.{◌≡◌, ◌≤◌, ◌+◌, ◌∙◌, [], ◌∷◌, ◌++◌, List, length, sym, ap, subst, arith}
use Rattle.blz_value.specs.Members.{Has}
use Rattle.blz_value.specs.Record.{Row, record_cmp}
use Rattle.blz_value.specs.RecordOrder.{record_cmp_total, record_cmp_exact}
use Rattle.blz_value.specs.Sets.{set_of}
use Rattle.blz_value.proofs.RowSets.{length-insert_key-new, length-insert_key-le}
use Rattle.blz_value.proofs.SetLaws.{Has-from_set_of}
use Rattle.blz_set.specs.RecordSet.{row_limit}
use Rattle.bloom_growth.specs.Bags.{entered_rows}
use Rattle.bloom_growth.specs.Growth.{Extends}
use Rattle.bloom_growth.proofs.BagsLemmas.{found_has, not_there, counted_still, count_is, none_given, one_entered, same_rows}
use Rattle.bloom_growth.proofs.CountsLemmas.{counted_more}
use Rattle.bloom_growth.proofs.bag.Bag.put_in.Goals as goal

pub returns-then-is_again-clause-bag : goal.returns-then-is_again-clause-bag
returns-then-is_again-clause-bag c = λ rows small is.
    let held = found_has rows c.args.self.now.counts is.counted c.args.row (c.is_again.ensures.there.0 c.if-is_again.true) in
    record {
      counted = c.is_again.ensures.more c.if-is_again.true rows small is.counted;
      few = subst (λ (l : List Row). length l ≤ row_limit) (sym (same_rows c.args.row rows held)) is.few;
    }

pub returns-then-is_again-clause-entered : goal.returns-then-is_again-clause-entered
returns-then-is_again-clause-entered c = λ mid rows is e.
    let held = found_has rows c.args.self.now.counts is.counted c.args.row (c.is_again.ensures.there.0 c.if-is_again.true) in
    subst (λ (l : List Row). Extends mid l (entered_rows c.args.passing.now)) (sym (same_rows c.args.row rows held)) e

pub returns-then-len-ge-ROW_LIMIT-clause-bag : goal.returns-then-len-ge-ROW_LIMIT-clause-bag
returns-then-len-ge-ROW_LIMIT-clause-bag c = λ rows small is.
    let row = c.args.row in
    let old = c.args.self.now.counts in
    let now = c.is_again.new.counts in
    let lacks : ¬ Has row rows = not_there rows old row c.is_again.result is.counted c.if-is_again.false c.is_again.ensures.there in
    let count = count_is rows now (counted_still rows old now (c.is_again.ensures.same c.if-is_again.false) is.counted) c.len.ensures.ordered in
    let more = length-insert_key-new record_cmp record_cmp_exact row (set_of rows) (λ h. lacks (Has-from_set_of row rows h)) in
    omega (arith, count, more, c.len.ensures.len)

pub returns-clause-bag : goal.returns-clause-bag
returns-clause-bag c = λ rows small is.
    let row = c.args.row in
    let old = c.args.self.now.counts in
    let now = c.is_again.new.counts in
    let lacks : ¬ Has row rows = not_there rows old row c.is_again.result is.counted c.if-is_again.false c.is_again.ensures.there in
    let are = counted_still rows old now (c.is_again.ensures.same c.if-is_again.false) is.counted in
    let count = count_is rows now are c.len.ensures.ordered in
    let one : 1 ≡ 0 + 1 = omega arith in
    record {
      counted = counted_more record_cmp_total rows row now c.insert.new.self 0 1 (none_given rows row lacks) one c.in_ok-insert.ensures.updates.0 are;
      few = omega (arith, count, c.len.ensures.len, length-insert_key-le record_cmp row (set_of rows));
    }

pub returns-clause-entered : goal.returns-clause-entered
returns-clause-entered c = λ mid rows is e.
    let row = c.args.row in
    let entered = c.args.passing.now.entered.items in
    let lacks : ¬ Has row rows = not_there rows c.args.self.now.counts row c.is_again.result is.counted c.if-is_again.false c.is_again.ensures.there in
    let all : c.push.new.self.items ≡ entered ++ row ∷ [] = c.in_ok-push.ensures.items ∙ ap (λ (r : Row). entered ++ r ∷ []) c.in_ok-copy.ensures in
    subst (λ (l : List Row). Extends mid (set_of (row ∷ rows)) (set_of l)) (sym all) (one_entered row rows mid entered lacks e)
