-- the rows so far were added
use Rattle.std.proofs.Common.{◌≡◌, ◌≤◌, ◌++◌, List, length, take}
use Rattle.blz_value.specs.Members.{Has}
use Rattle.blz_value.specs.Record.{Row}
use Rattle.blz_value.specs.Sets.{set_of, IsRowSet}
use Rattle.blz_set.specs.RecordSet.{row_limit}
use Rattle.bloom_growth.specs.TurningGroups.{AreTallied}
use Rattle.bloom_growth.proofs.turning_groups.TurningGroups.put_all.Given as goal

abbrev pub invariant-loop-row : goal.invariant-loop-row
invariant-loop-row l = record {
  keys : l.self.keys ≡ l.fn.self.keys;
  agg : l.self.agg ≡ l.fn.self.agg;
  tallied : (rows : List Row) → IsRowSet rows → length (set_of (rows ++ l.row-items)) ≤ row_limit → ((row : Row) → Has row l.row-items → ¬ Has row rows) → AreTallied l.fn.self.keys.items l.fn.self.agg rows l.fn.self.tallies → AreTallied l.fn.self.keys.items l.fn.self.agg (set_of (rows ++ take l.row-index l.row-items)) l.self.tallies;
}
