-- the rows so far that pass
use Rattle.std.proofs.Common.{◌≡◌, take}
use Rattle.blz_value.specs.Test.{test_holds}
use Rattle.blz_value.specs.Operators.{select_rows}
use Rattle.blz_set.proofs.set.RecordSet.select.Given as goal

abbrev pub invariant-loop-row : goal.invariant-loop-row
invariant-loop-row l = l.rows.items ≡ select_rows (test_holds l.test) (take l.row-index l.row-items)
