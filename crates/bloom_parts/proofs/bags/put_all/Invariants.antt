-- what comes of the bodies so far was put in
use Rattle.std.proofs.Common.{◌≡◌, ◌<◌, ◌++◌, List, length, take}
use Rattle.blz_value.specs.Record.{Row}
use Rattle.blz_value.specs.Sets.{set_of}
use Rattle.bloom_growth.specs.Bags.{IsBag, left_rows, entered_rows}
use Rattle.bloom_growth.specs.Counts.{most_given}
use Rattle.bloom_growth.specs.Growth.{Extends}
use Rattle.bloom_parts.specs.Code.Passing.{more_of}
use Rattle.bloom_parts.proofs.bags.put_all.Given as goal

abbrev pub invariant-loop-change : goal.invariant-loop-change
invariant-loop-change l = record {
  bag : (rows : List Row) → length (more_of l.changes ++ rows) < most_given → IsBag rows l.fn.bag → IsBag (more_of (take l.change-index l.changes) ++ rows) l.bag;
  entered : (mid rows : List Row) → length (more_of l.changes ++ rows) < most_given → IsBag rows l.fn.bag → Extends mid (set_of rows) (entered_rows l.fn.passing) → Extends mid (set_of (more_of (take l.change-index l.changes) ++ rows)) (entered_rows l.passing);
  left : left_rows l.passing ≡ left_rows l.fn.passing;
}
