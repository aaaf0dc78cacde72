use Rattle.blz_value.proofs.Least.{IsReached, missing}
use Rattle.blz_value.proofs.closing.closure.Given as goal

abbrev pub invariant-loop-more : goal.invariant-loop-more
invariant-loop-more l = IsReached l.fn.start.bits l.fds l.reached.bits

abbrev pub decreases-loop-more : goal.decreases-loop-more
decreases-loop-more l = missing l.fds l.reached.bits
