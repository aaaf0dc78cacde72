-- the takers so far stand at their logs
use Rattle.sched_run.specs.Code.Watch.{AreTakersBelow}
use Rattle.sched_run.proofs.tables.takers_of.Given as goal

abbrev pub invariant-loop-number : goal.invariant-loop-number
invariant-loop-number l = AreTakersBelow l.valid.view l.before l.all l.number l.takers
