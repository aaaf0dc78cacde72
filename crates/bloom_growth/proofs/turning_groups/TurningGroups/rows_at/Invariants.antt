-- the rows of the keys so far that occur
use Rattle.std.proofs.Common.{◌≡◌, List, filter, map, take}
use Rattle.blz_value.specs.Operators.{project_rows}
use Rattle.blz_value.specs.Record.{Row}
use Rattle.blz_set.specs.Missing.{has_row}
use Rattle.bloom_growth.specs.Code.Aggregates.{grouped}
use Rattle.bloom_growth.specs.TurningGroups.{AreTallied}
use Rattle.bloom_growth.proofs.turning_groups.TurningGroups.rows_at.Given as goal

abbrev pub invariant-loop-key : goal.invariant-loop-key
invariant-loop-key l = (rows : List Row) → AreTallied l.self.keys.items l.self.agg rows l.self.tallies → l.rows.items ≡ map (grouped l.self.keys.items l.self.agg rows) (filter (has_row (project_rows l.self.keys.items rows)) (take l.key-index l.keys))
