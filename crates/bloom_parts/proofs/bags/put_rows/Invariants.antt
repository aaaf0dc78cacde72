-- the rows so far were put in
use Rattle.std.proofs.Common.{◌≡◌, ◌<◌, ◌++◌, List, length, take}
use Rattle.blz_value.specs.Record.{Row}
use Rattle.blz_value.specs.Sets.{set_of}
use Rattle.bloom_growth.specs.Bags.{IsBag, left_rows, entered_rows}
use Rattle.bloom_growth.specs.Counts.{most_given}
use Rattle.bloom_growth.specs.Growth.{Extends}
use Rattle.bloom_parts.proofs.bags.put_rows.Given as goal

abbrev pub invariant-loop-row : goal.invariant-loop-row
invariant-loop-row l = record {
  bag : (rows : List Row) → length (l.more ++ rows) < most_given → IsBag rows l.fn.bag → IsBag (take l.row-index l.more ++ rows) l.bag;
  entered : (mid rows : List Row) → length (l.more ++ rows) < most_given → IsBag rows l.fn.bag → Extends mid (set_of rows) (entered_rows l.fn.passing) → Extends mid (set_of (take l.row-index l.more ++ rows)) (entered_rows l.passing);
  left : left_rows l.passing ≡ left_rows l.fn.passing;
}
