-- the rows so far were added
use Rattle.std.proofs.Common.{◌≡◌, ◌++◌, List, take}
use Rattle.blz_value.specs.Record.{Row}
use Rattle.blz_value.specs.Sets.{set_of, IsRowSet}
use Rattle.bloom_growth.specs.ByKey.{AreByKey}
use Rattle.bloom_growth.proofs.side.Side.add_each.Given as goal

abbrev pub invariant-loop-row : goal.invariant-loop-row
invariant-loop-row l = record {
  columns : l.self.columns ≡ l.fn.self.columns;
  side : (rows : List Row) → IsRowSet rows → AreByKey l.fn.self.columns.items rows l.fn.self.sets → AreByKey l.fn.self.columns.items (set_of (rows ++ take l.row-index l.row-items)) l.self.sets;
}
