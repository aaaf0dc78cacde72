-- the rows so far that have no partner
use Rattle.std.proofs.Common.{◌≡◌, ◌++◌, List, take}
use Rattle.blz_value.specs.Operators.{notin_rows}
use Rattle.blz_value.specs.Record.{Row}
use Rattle.blz_set.specs.Pairs.{rights_of}
use Rattle.bloom_growth.specs.ByKey.{AreByKey}
use Rattle.bloom_growth.proofs.turn_notins.push_unmatched.Given as goal

abbrev pub invariant-loop-left : goal.invariant-loop-left
invariant-loop-left g l = (rights : List Row) → AreByKey (rights_of l.pairs) rights (g.R.RowsByKey.kept l.side).sets → l.rows.items ≡ l.initial.rows.items ++ notin_rows l.pairs (take l.left-index l.left-items) rights
