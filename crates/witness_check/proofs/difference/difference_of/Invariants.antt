-- the replicas so far have no difference
use Rattle.witness_check.specs.Difference.{difference_at}
use Rattle.witness_check.proofs.Places.{HasNone}
use Rattle.witness_check.proofs.difference.difference_of.Given as goal

abbrev pub invariant-loop-replica : goal.invariant-loop-replica
invariant-loop-replica l = HasNone (difference_at l.stream) l.first l.second l.replica
