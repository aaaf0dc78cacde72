-- the rows so far were added
use Rattle.std.proofs.Common.{◌≡◌, ◌≤◌, ◌++◌, length, take, map}
use Rattle.blz_value.specs.Sets.{set_of}
use Rattle.blz_value.specs.Operators.{joined}
use Rattle.blz_set.specs.RecordSet.{row_limit}
use Rattle.blz_set.specs.Code.Entry.{rows_of}
use Rattle.blz_set.proofs.join.add_joined.Given as goal

abbrev pub invariant-loop-right : goal.invariant-loop-right
invariant-loop-right l = record {
  added : l.set ≡ set_of (l.initial.set ++ map (joined l.pairs l.left) (rows_of (take l.right-index l.rights)));
  small : length l.set ≤ row_limit;
}
