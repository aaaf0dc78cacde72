-- the lanes so far stand at the ports of their logs
use Rattle.sched_run.specs.Code.Watch.{AreLanesBelow}
use Rattle.sched_run.proofs.tables.logs_of.Given as goal

abbrev pub invariant-loop-place : goal.invariant-loop-place
invariant-loop-place l = AreLanesBelow l.valid.view l.lanes l.place l.logs
