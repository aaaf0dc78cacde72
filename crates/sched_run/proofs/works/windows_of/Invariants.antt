-- the windows on the lanes so far
use Rattle.sched_run.proofs.WorksLemmas.{WindowsBelow}
use Rattle.sched_run.proofs.works.windows_of.Given as goal

abbrev pub invariant-loop-lane : goal.invariant-loop-lane
invariant-loop-lane l = WindowsBelow l.valid.view l.books l.lanes l.windows.items l.lane-index
