-- so far the records are the same
use Rattle.std.proofs.Common.{◌≡◌, drop}
use Rattle.witness_check.specs.Code.Walk.{first_unequal}
use Rattle.witness_check.proofs.difference.first_unequal.Given as goal

abbrev pub invariant-loop-i : goal.invariant-loop-i
invariant-loop-i l = first_unequal l.first l.second ≡ first_unequal (drop l.i l.first) (drop l.i l.second)
