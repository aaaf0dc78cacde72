-- the streams so far have no difference
use Rattle.witness_check.specs.Difference.{difference_of}
use Rattle.witness_check.proofs.Places.{HasNone}
use Rattle.witness_check.proofs.difference.compare.Given as goal

abbrev pub invariant-loop-stream : goal.invariant-loop-stream
invariant-loop-stream l = HasNone difference_of l.first l.second l.stream
