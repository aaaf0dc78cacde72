use Rattle.std.proofs.Common.{◌≡◌, ◌∙◌, ◌+◌, ◌<◌, ◌∷◌, ◌++◌, List, length, drop, subst, arith}
use Rattle.std.proofs.lemmas.List.{drop_all}
use Rattle.blz_value.specs.Record.{Row}
use Rattle.blz_value.specs.Sets.{set_of}
use Rattle.blz_value.proofs.Lists.{rest_is}
use Rattle.bloom_growth.specs.Bags.{IsBag, left_rows}
use Rattle.bloom_growth.specs.Growth.{Extends}
use Rattle.bloom_parts.proofs.bags.take_rows.Goals as goal

pub loop-row-preserved : goal.loop-row-preserved
loop-row-preserved c =
    let items = c.args.gone.now in
    let i = c.loop-row.row-index in
    let row = c.row-item.result in
    let lt : i < length items = omega arith in
    let cut : drop i items ≡ row ∷ drop (i + 1) items = rest_is items i row lt c.row-item.is in
    record {
      bag = λ rows is. c.take_out.ensures.bag (drop (i + 1) items ++ rows) (subst (λ (l : List Row). IsBag (l ++ rows) c.loop-row.bag) cut (c.loop-row.invariant.bag rows is));
      left = λ old rows is e.
          c.in_ok-take_out.ensures.left old (drop (i + 1) items ++ rows)
          (subst (λ (l : List Row). IsBag (l ++ rows) c.loop-row.bag) cut (c.loop-row.invariant.bag rows is))
          (subst (λ (l : List Row). Extends (set_of (l ++ rows)) old (left_rows c.loop-row.passing)) cut (c.loop-row.invariant.left old rows is e));
      entered = c.take_out.ensures.entered ∙ c.loop-row.invariant.entered;
    }

pub returns-clause-bag : goal.returns-clause-bag
returns-clause-bag c = λ rows is.
    let items = c.args.gone.now in
    subst (λ (l : List Row). IsBag (l ++ rows) c.loop-row.bag) (drop_all c.loop-row.row-index items (omega arith))
    (c.loop-row.invariant.bag rows is)

pub returns-clause-left : goal.returns-clause-left
returns-clause-left c = λ old rows is e.
    let items = c.args.gone.now in
    subst (λ (l : List Row). Extends (set_of (l ++ rows)) old (left_rows c.loop-row.passing)) (drop_all c.loop-row.row-index items (omega arith))
    (c.loop-row.invariant.left old rows is e)
