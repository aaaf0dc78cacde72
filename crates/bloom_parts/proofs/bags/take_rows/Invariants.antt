-- the rows so far were taken out
use Rattle.std.proofs.Common.{◌≡◌, ◌++◌, List, drop}
use Rattle.blz_value.specs.Record.{Row}
use Rattle.blz_value.specs.Sets.{set_of}
use Rattle.bloom_growth.specs.Bags.{IsBag, left_rows, entered_rows}
use Rattle.bloom_growth.specs.Growth.{Extends}
use Rattle.bloom_parts.proofs.bags.take_rows.Given as goal

abbrev pub invariant-loop-row : goal.invariant-loop-row
invariant-loop-row l = record {
  bag : (rows : List Row) → IsBag (l.gone ++ rows) l.fn.bag → IsBag (drop l.row-index l.gone ++ rows) l.bag;
  left : (old rows : List Row) → IsBag (l.gone ++ rows) l.fn.bag → Extends (set_of (l.gone ++ rows)) old (left_rows l.fn.passing) → Extends (set_of (drop l.row-index l.gone ++ rows)) old (left_rows l.passing);
  entered : entered_rows l.passing ≡ entered_rows l.fn.passing;
}
