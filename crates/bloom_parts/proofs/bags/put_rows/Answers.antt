use Rattle.std.proofs.Common.{◌∙◌, ◌+◌, ◌<◌, ◌∷◌, ◌++◌, [], List, Err, length, take, drop, take_all, length-append, length-take, sym, subst, arith}
use Rattle.blz_value.specs.Record.{Row}
use Rattle.blz_value.specs.Sets.{set_of}
use Rattle.blz_set.proofs.Unions.{handed_on}
use Rattle.bloom_growth.specs.Bags.{IsBag, BecomesBag, entered_rows}
use Rattle.bloom_growth.specs.Counts.{most_given}
use Rattle.bloom_growth.specs.Growth.{Extends}
use Rattle.bloom_growth.proofs.BagRows.{alike_bag, alike_rows}
use Rattle.bloom_parts.proofs.BodiesLemmas.{alike_next, put_fault, rows_to, rows_all}
use Rattle.bloom_parts.proofs.bags.put_rows.Goals as goal

pub loop-row-preserved : goal.loop-row-preserved
loop-row-preserved c =
    let items = c.args.more.now in
    let i = c.loop-row.row-index in
    let row = c.row-item.result in
    let lt : i < length items = omega arith in
    let one = c.in_ok-copy.ensures in
    let new = c.put_in.new.self in
    let passing = c.put_in.new.passing in
    let next = rows_to items i row lt c.row-item.is in
    let alike = λ (rows : List Row). alike_next (row ∷ []) (take i items) rows in
    let few = λ (rows : List Row) (small : length (items ++ rows) < most_given).
    let fits : length (take i items ++ rows) < most_given = omega (arith, small, length-append (take i items) rows, length-append items rows, length-take i items) in fits in
    record {
      bag = λ rows small is.
          subst (λ (l : List Row). IsBag (l ++ rows) new) (sym next)
          (alike_bag (row ∷ (take i items ++ rows)) ((take i items ++ row ∷ []) ++ rows) new (alike rows)
          (subst (λ (r : Row). IsBag (r ∷ (take i items ++ rows)) new) one (c.in_ok-put_in.ensures.bag (take i items ++ rows) (few rows small) (c.loop-row.invariant.bag rows small is))));
      entered = λ mid rows small is e.
          subst (λ (l : List Row). Extends mid (set_of (l ++ rows)) (entered_rows passing)) (sym next)
          (subst (λ (l : List Row). Extends mid l (entered_rows passing)) (alike_rows (row ∷ (take i items ++ rows)) ((take i items ++ row ∷ []) ++ rows) (alike rows))
          (subst (λ (r : Row). Extends mid (set_of (r ∷ (take i items ++ rows))) (entered_rows passing)) one
          (c.in_ok-put_in.ensures.entered mid (take i items ++ rows) (c.loop-row.invariant.bag rows small is) (c.loop-row.invariant.entered mid rows small is e))));
      left = c.put_in.ensures.left ∙ c.loop-row.invariant.left;
    }

pub returns-in_err-put_in-clause-bag : goal.returns-in_err-put_in-clause-bag
returns-in_err-put_in-clause-bag c = λ rows small is.
    let items = c.args.more.now in
    let i = c.loop-row.row-index in
    let row = c.row-item.result in
    let lt : i < length items = omega arith in
    let fits : length (take i items ++ rows) < most_given = omega (arith, small, length-append (take i items) rows, length-append items rows, length-take i items) in
    let fault = c.in_err-put_in.field-0.0 in
    let new = c.put_in.new.self in
    let before = c.loop-row.invariant.bag rows small is in
    subst (λ (l : List Row). BecomesBag {X = Unit {0}} (l ++ rows) new c.from_residual-in_err-put_in.result) (sym (rows_all items i row lt c.row-item.is))
    (subst (BecomesBag {X = Unit {0}} ((take i items ++ row ∷ drop (i + 1) items) ++ rows) new) (sym (handed_on _ c.from_residual-in_err-put_in.result fault c.from_residual-in_err-put_in.ensures.1))
    (put_fault (row ∷ []) (take i items) (drop (i + 1) items) rows new fault (subst (λ (r : Row). BecomesBag {X = Unit {0}} (r ∷ (take i items ++ rows)) new (Err fault)) c.in_ok-copy.ensures (c.in_err-put_in.ensures.bag (take i items ++ rows) fits before))))

pub returns-clause-bag : goal.returns-clause-bag
returns-clause-bag c = λ rows small is.
    let items = c.args.more.now in
    subst (λ (l : List Row). IsBag (l ++ rows) c.loop-row.bag) (take_all c.loop-row.row-index items (omega arith)) (c.loop-row.invariant.bag rows small is)

pub returns-clause-entered : goal.returns-clause-entered
returns-clause-entered c = λ mid rows small is e.
    let items = c.args.more.now in
    subst (λ (l : List Row). Extends mid (set_of (l ++ rows)) (entered_rows c.loop-row.passing)) (take_all c.loop-row.row-index items (omega arith)) (c.loop-row.invariant.entered mid rows small is e)
