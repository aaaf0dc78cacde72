-- the sets before the index are empty, the others as they were
use Rattle.std.proofs.Common.{◌≡◌}
use Rattle.bloom_eval.proofs.Emptied.{emptied}
use Rattle.bloom_eval.proofs.sets.Kept.clear.Given as goal

abbrev pub invariant-loop-set : goal.invariant-loop-set
invariant-loop-set l = l.set-items ≡ emptied l.set-index l.initial.set-items
