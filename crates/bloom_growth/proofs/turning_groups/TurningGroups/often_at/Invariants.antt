-- those of the keys so far that occur in so many rows
use Rattle.std.proofs.Common.{◌≡◌, List, filter, length, take}
use Rattle.std.specs.Prelude.{nat_le, ◌&&◌}
use Rattle.blz_value.specs.Groups.{with_key}
use Rattle.blz_value.specs.Operators.{project_rows}
use Rattle.blz_value.specs.Record.{Row}
use Rattle.blz_set.specs.Missing.{has_row}
use Rattle.bloom_growth.specs.TurningGroups.{AreTallied}
use Rattle.bloom_growth.proofs.turning_groups.TurningGroups.often_at.Given as goal

abbrev pub invariant-loop-key : goal.invariant-loop-key
invariant-loop-key l = (rows : List Row) → AreTallied l.self.keys.items l.self.agg rows l.self.tallies → l.rows.items ≡ filter (λ key. has_row (project_rows l.self.keys.items rows) key && nat_le l.bound (length (with_key l.self.keys.items key rows))) (take l.key-index l.keys)
