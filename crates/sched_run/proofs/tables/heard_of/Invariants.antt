-- the lanes so far stand at their instances
use Rattle.sched_run.specs.Code.Watch.{AreHeardBelow}
use Rattle.sched_run.proofs.tables.heard_of.Given as goal

abbrev pub invariant-loop-place : goal.invariant-loop-place
invariant-loop-place l = AreHeardBelow l.valid.view l.lanes l.place l.heard.items
