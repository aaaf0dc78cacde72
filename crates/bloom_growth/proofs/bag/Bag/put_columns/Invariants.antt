-- the columns of the rows so far were put in
use Rattle.std.proofs.Common.{◌≡◌, ◌+◌, ◌<◌, ◌++◌, List, length, take}
use Rattle.blz_value.specs.Operators.{project_rows}
use Rattle.blz_value.specs.Record.{Row}
use Rattle.blz_value.specs.Sets.{set_of}
use Rattle.bloom_growth.specs.Bags.{IsBag, left_rows, entered_rows}
use Rattle.bloom_growth.specs.Counts.{most_given}
use Rattle.bloom_growth.specs.Growth.{Extends}
use Rattle.bloom_growth.proofs.bag.Bag.put_columns.Given as goal

abbrev pub invariant-loop-row : goal.invariant-loop-row
invariant-loop-row l = record {
  bag : (rows : List Row) → length rows + length l.row-items < most_given → IsBag rows l.fn.self → IsBag (project_rows l.columns (take l.row-index l.row-items) ++ rows) l.self;
  entered : (mid rows : List Row) → length rows + length l.row-items < most_given → IsBag rows l.fn.self → Extends mid (set_of rows) (entered_rows l.fn.passing) → Extends mid (set_of (project_rows l.columns (take l.row-index l.row-items) ++ rows)) (entered_rows l.passing);
  left : left_rows l.passing ≡ left_rows l.fn.passing;
}
