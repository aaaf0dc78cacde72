use Rattle.std.proofs.Common.{◌≡◌, ◌∙◌, ◌+◌, ◌++◌, append_assoc, List, drop, ap, sym, subst}
use Rattle.std.proofs.lemmas.List.{drop_all}
use Rattle.blz_value.specs.Record.{Row}
use Rattle.blz_value.specs.Sets.{set_of}
use Rattle.bloom_growth.specs.Bags.{IsBag, left_rows}
use Rattle.bloom_growth.specs.Growth.{Extends}
use Rattle.bloom_parts.specs.declared.change.Change.{Change}
use Rattle.bloom_parts.specs.Code.Passing.{gone_of}
use Rattle.bloom_parts.specs.Turns.{rows_in}
use Rattle.bloom_parts.proofs.BodiesLemmas.{pieces_from}
use Rattle.bloom_parts.proofs.bags.take_all.Goals as goal

pub loop-change-preserved : goal.loop-change-preserved
loop-change-preserved c =
    let changes = c.args.changes.now in
    let i = c.loop-change.change-index in
    let change = c.change-item.result in
    let gone = c.as_rows.result.now in
    let rest = gone_of (drop (i + 1) changes) in
    let first : gone_of (drop i changes) ≡ gone ++ rest = pieces_from (λ (x : Change). rows_in x.gone) changes i change c.loop-change-test.true c.change-item.is ∙ ap (λ (l : List Row). l ++ rest) (sym c.as_rows.ensures) in
    let cut = λ (rows : List Row). ap (λ (l : List Row). l ++ rows) first ∙ append_assoc gone rest rows in
    record {
      bag = λ rows is. c.in_ok-take_rows.ensures.bag (rest ++ rows) (subst (λ (l : List Row). IsBag l c.loop-change.bag) (cut rows) (c.loop-change.invariant.bag rows is));
      left = λ old rows is e.
          c.in_ok-take_rows.ensures.left old (rest ++ rows)
          (subst (λ (l : List Row). IsBag l c.loop-change.bag) (cut rows) (c.loop-change.invariant.bag rows is))
          (subst (λ (l : List Row). Extends (set_of l) old (left_rows c.loop-change.passing)) (cut rows) (c.loop-change.invariant.left old rows is e));
      entered = c.take_rows.ensures.entered ∙ c.loop-change.invariant.entered;
    }

pub returns-clause-bag : goal.returns-clause-bag
returns-clause-bag c = λ rows is.
    subst (λ (l : List Change). IsBag (gone_of l ++ rows) c.loop-change.bag) (drop_all c.loop-change.change-index c.args.changes.now c.loop-change-test.false) (c.loop-change.invariant.bag rows is)

pub returns-clause-left : goal.returns-clause-left
returns-clause-left c = λ old rows is e.
    subst (λ (l : List Change). Extends (set_of (gone_of l ++ rows)) old (left_rows c.loop-change.passing)) (drop_all c.loop-change.change-index c.args.changes.now c.loop-change-test.false) (c.loop-change.invariant.left old rows is e)
