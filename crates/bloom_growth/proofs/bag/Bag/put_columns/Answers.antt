use Rattle.std.proofs.Common.{◌∙◌, ◌+◌, ◌<◌, ◌∷◌, ◌++◌, List, Err, length, take, take_all, length-append, length-take, sym, ap, subst, arith}
use Rattle.std.proofs.lemmas.List.{length-map}
use Rattle.blz_value.specs.Operators.{cells, project_rows}
use Rattle.blz_value.specs.Record.{Row}
use Rattle.blz_value.specs.Sets.{set_of}
use Rattle.blz_set.proofs.Unions.{handed_on}
use Rattle.bloom_growth.specs.Bags.{IsBag, BecomesBag, entered_rows}
use Rattle.bloom_growth.specs.Counts.{most_given}
use Rattle.bloom_growth.specs.Growth.{Extends}
use Rattle.bloom_growth.proofs.BagRows.{alike_bag, alike_rows, columns_to, put_fault}
use Rattle.bloom_growth.proofs.bag.Bag.put_columns.Goals as goal

pub loop-row-preserved : goal.loop-row-preserved
loop-row-preserved c =
    let columns = c.args.columns.now in
    let items = c.rows-row-items.result.now in
    let i = c.loop-row.row-index in
    let row = c.row-item.result in
    let lt : i < length items = omega arith in
    let one = c.in_ok-copy_cells.ensures in
    let new = c.put_in.new.self in
    let few = λ (rows : List Row) (small : length rows + length items < most_given).
    let fits : length (project_rows columns (take i items) ++ rows) < most_given = omega (arith, small, length-append (project_rows columns (take i items)) rows, length-map (take i items) (cells columns), length-take i items) in fits in
    record {
      bag = λ rows small is.
          alike_bag (cells columns row ∷ (project_rows columns (take i items) ++ rows)) (project_rows columns (take (i + 1) items) ++ rows) new (columns_to columns items i row lt c.row-item.is rows)
          (subst (λ (r : Row). IsBag (r ∷ (project_rows columns (take i items) ++ rows)) new) one (c.in_ok-put_in.ensures.bag (project_rows columns (take i items) ++ rows) (few rows small) (c.loop-row.invariant.bag rows small is)));
      entered = λ mid rows small is e.
          subst (λ (l : List Row). Extends mid l (entered_rows c.put_in.new.passing)) (alike_rows (cells columns row ∷ (project_rows columns (take i items) ++ rows)) (project_rows columns (take (i + 1) items) ++ rows) (columns_to columns items i row lt c.row-item.is rows))
          (subst (λ (r : Row). Extends mid (set_of (r ∷ (project_rows columns (take i items) ++ rows))) (entered_rows c.put_in.new.passing)) one
          (c.in_ok-put_in.ensures.entered mid (project_rows columns (take i items) ++ rows) (c.loop-row.invariant.bag rows small is) (c.loop-row.invariant.entered mid rows small is e)));
      left = c.put_in.ensures.left ∙ c.loop-row.invariant.left;
    }

pub returns-in_err-put_in-clause-bag : goal.returns-in_err-put_in-clause-bag
returns-in_err-put_in-clause-bag c = λ rows small is.
    let columns = c.args.columns.now in
    let items = c.rows-row-items.result.now in
    let i = c.loop-row.row-index in
    let row = c.row-item.result in
    let lt : i < length items = omega arith in
    let all = c.rows-row-items.ensures.all in
    let small_items : length rows + length items < most_given = omega (arith, small, ap (length {A = Row}) all) in
    let fits : length (project_rows columns (take i items) ++ rows) < most_given = omega (arith, small_items, length-append (project_rows columns (take i items)) rows, length-map (take i items) (cells columns), length-take i items) in
    let fault = c.in_err-put_in.field-0.0 in
    let before = c.loop-row.invariant.bag rows small_items is in
    subst (λ (l : List Row). BecomesBag {X = Unit {0}} (project_rows columns l ++ rows) c.put_in.new.self c.from_residual-in_err-put_in.result) all
    (subst (BecomesBag {X = Unit {0}} (project_rows columns items ++ rows) c.put_in.new.self) (sym (handed_on _ c.from_residual-in_err-put_in.result fault c.from_residual-in_err-put_in.ensures.1))
    (put_fault columns items i row lt c.row-item.is rows c.put_in.new.self fault (subst (λ (r : Row). BecomesBag {X = Unit {0}} (r ∷ (project_rows columns (take i items) ++ rows)) c.put_in.new.self (Err fault)) c.in_ok-copy_cells.ensures (c.in_err-put_in.ensures.bag (project_rows columns (take i items) ++ rows) fits before))))

pub returns-clause-bag : goal.returns-clause-bag
returns-clause-bag c = λ rows small is.
    let columns = c.args.columns.now in
    let items = c.rows-row-items.result.now in
    let all = c.rows-row-items.ensures.all in
    let small_items : length rows + length items < most_given = omega (arith, small, ap (length {A = Row}) all) in
    subst (λ (l : List Row). IsBag (project_rows columns l ++ rows) c.loop-row.self) (take_all c.loop-row.row-index items (omega arith) ∙ all) (c.loop-row.invariant.bag rows small_items is)

pub returns-clause-entered : goal.returns-clause-entered
returns-clause-entered c = λ mid rows small is e.
    let columns = c.args.columns.now in
    let items = c.rows-row-items.result.now in
    let all = c.rows-row-items.ensures.all in
    let small_items : length rows + length items < most_given = omega (arith, small, ap (length {A = Row}) all) in
    subst (λ (l : List Row). Extends mid (set_of (project_rows columns l ++ rows)) (entered_rows c.loop-row.passing)) (take_all c.loop-row.row-index items (omega arith) ∙ all) (c.loop-row.invariant.entered mid rows small_items is e)
