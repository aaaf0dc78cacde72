-- the joined rows so far
use Rattle.std.proofs.Common.{◌≡◌, ◌≤◌, length, take}
use Rattle.blz_value.specs.Sets.{set_of}
use Rattle.blz_value.specs.Operators.{join_rows}
use Rattle.blz_set.specs.RecordSet.{row_limit}
use Rattle.blz_set.proofs.set.RecordSet.join.Given as goal

abbrev pub invariant-loop-left : goal.invariant-loop-left
invariant-loop-left l = record {
  joined : l.set ≡ set_of (join_rows l.pairs (take l.left-index l.left-items) l.other);
  small : length l.set ≤ row_limit;
}
