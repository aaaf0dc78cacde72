-- the rows so far were taken away
use Rattle.std.proofs.Common.{◌≡◌, ◌≤◌, ◌++◌, List, length, drop}
use Rattle.blz_value.specs.Members.{Has}
use Rattle.blz_value.specs.Record.{Row}
use Rattle.blz_value.specs.Sets.{set_of, IsRowSet}
use Rattle.blz_set.specs.RecordSet.{row_limit}
use Rattle.bloom_growth.specs.TurningGroups.{AreTallied}
use Rattle.bloom_growth.proofs.turning_groups.TurningGroups.take_all.Given as goal

abbrev pub invariant-loop-row : goal.invariant-loop-row
invariant-loop-row l = record {
  keys : l.self.keys ≡ l.fn.self.keys;
  agg : l.self.agg ≡ l.fn.self.agg;
  tallied : (rows : List Row) → IsRowSet rows → length (set_of (rows ++ l.row-items)) ≤ row_limit → ((row : Row) → Has row l.row-items → ¬ Has row rows) → AreTallied l.fn.self.keys.items l.fn.self.agg (set_of (rows ++ l.row-items)) l.fn.self.tallies → AreTallied l.fn.self.keys.items l.fn.self.agg (set_of (rows ++ drop l.row-index l.row-items)) l.self.tallies;
}
