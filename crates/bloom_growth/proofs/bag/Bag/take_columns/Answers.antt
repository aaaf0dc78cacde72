use Rattle.std.proofs.Common.{◌≡◌, ◌∙◌, ◌+◌, ◌<◌, ◌∷◌, ◌++◌, List, length, drop, sym, ap, subst, arith}
use Rattle.blz_value.specs.Operators.{project_rows}
use Rattle.blz_value.specs.Record.{Row}
use Rattle.blz_value.specs.Sets.{set_of}
use Rattle.bloom_growth.specs.Bags.{IsBag, left_rows}
use Rattle.bloom_growth.specs.Growth.{Extends}
use Rattle.bloom_growth.proofs.BagRows.{columns_from}
use Rattle.bloom_growth.proofs.TurnedGroups.{dropped}
use Rattle.bloom_growth.proofs.bag.Bag.take_columns.Goals as goal

pub loop-row-preserved : goal.loop-row-preserved
loop-row-preserved c =
    let columns = c.args.columns.now in
    let items = c.rows-row-items.result.now in
    let i = c.loop-row.row-index in
    let row = c.row-item.result in
    let lt : i < length items = omega arith in
    let cut : project_rows columns (drop i items) ≡ c.in_ok-cells.cells ∷ project_rows columns (drop (i + 1) items) =
    columns_from columns items i row lt c.row-item.is ∙ ap (λ (r : Row). r ∷ project_rows columns (drop (i + 1) items)) (sym c.in_ok-cells.ensures) in
    record {
      bag = λ rows is. c.take_out.ensures.bag (project_rows columns (drop (i + 1) items) ++ rows) (subst (λ (l : List Row). IsBag (l ++ rows) c.loop-row.self) cut (c.loop-row.invariant.bag rows is));
      left = λ old rows is e.
          c.in_ok-take_out.ensures.left old (project_rows columns (drop (i + 1) items) ++ rows)
          (subst (λ (l : List Row). IsBag (l ++ rows) c.loop-row.self) cut (c.loop-row.invariant.bag rows is))
          (subst (λ (l : List Row). Extends (set_of (l ++ rows)) old (left_rows c.loop-row.passing)) cut (c.loop-row.invariant.left old rows is e));
      entered = c.take_out.ensures.entered ∙ c.loop-row.invariant.entered;
    }

pub returns-clause-bag : goal.returns-clause-bag
returns-clause-bag c = λ rows is.
    let columns = c.args.columns.now in
    let items = c.rows-row-items.result.now in
    subst (λ (l : List Row). IsBag (project_rows columns l ++ rows) c.loop-row.self) (dropped items c.loop-row.row-index (omega arith))
    (c.loop-row.invariant.bag rows (subst (λ (l : List Row). IsBag (project_rows columns l ++ rows) c.args.self.now) (sym c.rows-row-items.ensures.all) is))

pub returns-clause-left : goal.returns-clause-left
returns-clause-left c = λ old rows is e.
    let columns = c.args.columns.now in
    let items = c.rows-row-items.result.now in
    let all = sym c.rows-row-items.ensures.all in
    subst (λ (l : List Row). Extends (set_of (project_rows columns l ++ rows)) old (left_rows c.loop-row.passing)) (dropped items c.loop-row.row-index (omega arith))
    (c.loop-row.invariant.left old rows (subst (λ (l : List Row). IsBag (project_rows columns l ++ rows) c.args.self.now) all is)
    (subst (λ (l : List Row). Extends (set_of (project_rows columns l ++ rows)) old (left_rows c.args.passing.now)) all e))
