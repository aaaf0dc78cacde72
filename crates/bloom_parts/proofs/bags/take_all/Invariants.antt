-- what goes of the bodies so far was taken out
use Rattle.std.proofs.Common.{◌≡◌, ◌++◌, List, drop}
use Rattle.blz_value.specs.Record.{Row}
use Rattle.blz_value.specs.Sets.{set_of}
use Rattle.bloom_growth.specs.Bags.{IsBag, left_rows, entered_rows}
use Rattle.bloom_growth.specs.Growth.{Extends}
use Rattle.bloom_parts.specs.Code.Passing.{gone_of}
use Rattle.bloom_parts.proofs.bags.take_all.Given as goal

abbrev pub invariant-loop-change : goal.invariant-loop-change
invariant-loop-change l = record {
  bag : (rows : List Row) → IsBag (gone_of l.changes ++ rows) l.fn.bag → IsBag (gone_of (drop l.change-index l.changes) ++ rows) l.bag;
  left : (old rows : List Row) → IsBag (gone_of l.changes ++ rows) l.fn.bag → Extends (set_of (gone_of l.changes ++ rows)) old (left_rows l.fn.passing) → Extends (set_of (gone_of (drop l.change-index l.changes) ++ rows)) old (left_rows l.passing);
  entered : entered_rows l.passing ≡ entered_rows l.fn.passing;
}
