-- the rows so far that agree with none
use Rattle.std.proofs.Common.{◌≡◌, take}
use Rattle.blz_value.specs.Operators.{notin_rows}
use Rattle.blz_set.proofs.set.RecordSet.antijoin.Given as goal

abbrev pub invariant-loop-left : goal.invariant-loop-left
invariant-loop-left l = l.rows.items ≡ notin_rows l.pairs (take l.left-index l.left-items) l.other
