-- the rows so far were taken away
use Rattle.std.proofs.Common.{◌≡◌, List, take}
use Rattle.blz_value.specs.Record.{Row}
use Rattle.blz_value.specs.Sets.{IsRowSet}
use Rattle.blz_set.specs.Missing.{missing_from}
use Rattle.bloom_growth.specs.ByKey.{AreByKey}
use Rattle.bloom_growth.proofs.keyed.KeyedRows.shrink.Given as goal

abbrev pub invariant-loop-row : goal.invariant-loop-row
invariant-loop-row l = record {
  columns : l.self.columns ≡ l.fn.self.columns;
  side : (rows : List Row) → IsRowSet rows → AreByKey l.fn.self.columns.items rows l.fn.self.sets → AreByKey l.fn.self.columns.items (missing_from (take l.row-index l.row-items) rows) l.self.sets;
}
