use Rattle.std.proofs.Common.{◌≡◌, ◌∙◌, ◌+◌, ◌++◌, List, take, drop, take_all, sym, ap, subst}
use Rattle.blz_value.specs.Record.{Row}
use Rattle.blz_value.specs.Sets.{set_of}
use Rattle.blz_set.proofs.Unions.{handed_on}
use Rattle.bloom_growth.specs.Bags.{IsBag, BecomesBag, entered_rows}
use Rattle.bloom_growth.specs.Growth.{Extends}
use Rattle.bloom_growth.proofs.BagRows.{alike_bag, alike_rows}
use Rattle.bloom_parts.specs.declared.change.Change.{Change}
use Rattle.bloom_parts.specs.Code.Passing.{more_of}
use Rattle.bloom_parts.specs.Turns.{rows_in}
use Rattle.bloom_parts.proofs.BodiesLemmas.{alike_next, put_fault, pieces_to, pieces_all, few_next}
use Rattle.bloom_parts.proofs.bags.put_all.Goals as goal

pub loop-change-preserved : goal.loop-change-preserved
loop-change-preserved c =
    let changes = c.args.changes.now in
    let i = c.loop-change.change-index in
    let change = c.change-item.result in
    let lt = c.loop-change-test.true in
    let more = c.as_rows.result.now in
    let before = more_of (take i changes) in
    let rest = more_of (drop (i + 1) changes) in
    let own = λ (x : Change). rows_in x.rows in
    let next : more_of (take (i + 1) changes) ≡ before ++ more = pieces_to own changes i change lt c.change-item.is ∙ ap (λ (l : List Row). before ++ l) (sym c.as_rows.ensures) in
    let all : more_of changes ≡ before ++ (more ++ rest) = pieces_all own changes i change lt c.change-item.is ∙ ap (λ (l : List Row). before ++ (l ++ rest)) (sym c.as_rows.ensures) in
    let bag = c.put_rows.new.bag in
    let passing = c.put_rows.new.passing in
    record {
      bag = λ rows small is.
          subst (λ (l : List Row). IsBag (l ++ rows) bag) (sym next)
          (alike_bag (more ++ (before ++ rows)) ((before ++ more) ++ rows) bag (alike_next more before rows)
          (c.in_ok-put_rows.ensures.bag (before ++ rows) (few_next (more_of changes) more before rest rows all small) (c.loop-change.invariant.bag rows small is)));
      entered = λ mid rows small is e.
          subst (λ (l : List Row). Extends mid (set_of (l ++ rows)) (entered_rows passing)) (sym next)
          (subst (λ (l : List Row). Extends mid l (entered_rows passing)) (alike_rows (more ++ (before ++ rows)) ((before ++ more) ++ rows) (alike_next more before rows))
          (c.in_ok-put_rows.ensures.entered mid (before ++ rows) (few_next (more_of changes) more before rest rows all small) (c.loop-change.invariant.bag rows small is) (c.loop-change.invariant.entered mid rows small is e)));
      left = c.put_rows.ensures.left ∙ c.loop-change.invariant.left;
    }

pub returns-in_err-put_rows-clause-bag : goal.returns-in_err-put_rows-clause-bag
returns-in_err-put_rows-clause-bag c = λ rows small is.
    let changes = c.args.changes.now in
    let i = c.loop-change.change-index in
    let change = c.change-item.result in
    let lt = c.loop-change-test.true in
    let more = c.as_rows.result.now in
    let before = more_of (take i changes) in
    let rest = more_of (drop (i + 1) changes) in
    let all : more_of changes ≡ before ++ (more ++ rest) = pieces_all (λ (x : Change). rows_in x.rows) changes i change lt c.change-item.is ∙ ap (λ (l : List Row). before ++ (l ++ rest)) (sym c.as_rows.ensures) in
    let bag = c.put_rows.new.bag in
    let fault = c.in_err-put_rows.field-0.0 in
    subst (λ (l : List Row). BecomesBag {X = Unit {0}} (l ++ rows) bag c.from_residual.result) (sym all)
    (subst (BecomesBag {X = Unit {0}} ((before ++ (more ++ rest)) ++ rows) bag) (sym (handed_on _ c.from_residual.result fault c.from_residual.ensures.1))
    (put_fault more before rest rows bag fault (c.in_err-put_rows.ensures.bag (before ++ rows) (few_next (more_of changes) more before rest rows all small) (c.loop-change.invariant.bag rows small is))))

pub returns-clause-bag : goal.returns-clause-bag
returns-clause-bag c = λ rows small is.
    subst (λ (l : List Change). IsBag (more_of l ++ rows) c.loop-change.bag) (take_all c.loop-change.change-index c.args.changes.now c.loop-change-test.false) (c.loop-change.invariant.bag rows small is)

pub returns-clause-entered : goal.returns-clause-entered
returns-clause-entered c = λ mid rows small is e.
    subst (λ (l : List Change). Extends mid (set_of (more_of l ++ rows)) (entered_rows c.loop-change.passing)) (take_all c.loop-change.change-index c.args.changes.now c.loop-change-test.false) (c.loop-change.invariant.entered mid rows small is e)
