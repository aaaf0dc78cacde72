use Rattle.std.proofs.Common.{◌≡◌, ◌∙◌, [], ◌∷◌, ◌++◌, List, sym, ap, subst}
use Rattle.blz_value.specs.Record.{Row}
use Rattle.blz_value.specs.RecordOrder.{record_cmp_exact}
use Rattle.blz_value.specs.Sets.{set_of}
use Rattle.bloom_growth.specs.Bags.{left_rows}
use Rattle.bloom_growth.specs.Growth.{Extends}
use Rattle.bloom_growth.proofs.BagsLemmas.{few_less, one_left, same_rows, lacks_none, times_has}
use Rattle.bloom_growth.proofs.bag.Bag.take_out.Goals as goal

pub returns-in_err-push-in-Some-clause-bag : goal.returns-in_err-push-in-Some-clause-bag
returns-in_err-push-in-Some-clause-bag c = λ rows is. record { counted = c.take_key.ensures.less rows is.counted; few = few_less c.args.row.now rows is.few }

pub returns-in_ok-push-in-Some-clause-bag : goal.returns-in_ok-push-in-Some-clause-bag
returns-in_ok-push-in-Some-clause-bag c = λ rows is. record { counted = c.take_key.ensures.less rows is.counted; few = few_less c.args.row.now rows is.few }

pub returns-in_ok-push-in-Some-clause-left : goal.returns-in_ok-push-in-Some-clause-left
returns-in_ok-push-in-Some-clause-left c = λ old rows is e.
    let row = c.args.row.now in
    let left = c.args.passing.now.left.items in
    let once = c.in-Some.ensures.once in
    let all : c.push.new.self.items ≡ left ++ row ∷ [] = c.in_ok-push-in-Some.ensures.items ∙ ap (λ (r : Row). left ++ r ∷ []) (sym (record_cmp_exact row c.in-Some.taken once.1)) in
    subst (λ (l : List Row). Extends (set_of rows) old (set_of l)) (sym all) (one_left row rows old left (lacks_none rows row (once.0 rows is.counted)) e)

pub returns-in-None-clause-bag : goal.returns-in-None-clause-bag
returns-in-None-clause-bag c = λ rows is. record { counted = c.take_key.ensures.less rows is.counted; few = few_less c.args.row.now rows is.few }

pub returns-in-None-clause-left : goal.returns-in-None-clause-left
returns-in-None-clause-left c = λ old rows is e.
    let row = c.args.row.now in
    subst (λ (l : List Row). Extends l old (left_rows c.args.passing.now)) (same_rows row rows (times_has rows row (c.in-None.ensures.still rows is.counted))) e
