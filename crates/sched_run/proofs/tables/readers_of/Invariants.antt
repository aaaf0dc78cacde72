-- the lanes so far stand where their messages come from
use Rattle.sched_run.specs.Code.Watch.{AreReadersBelow}
use Rattle.sched_run.proofs.tables.readers_of.Given as goal

abbrev pub invariant-loop-place : goal.invariant-loop-place
invariant-loop-place l = AreReadersBelow l.valid.view l.lanes l.place l.readers
