-- the lines so far are those of the events so far
use Rattle.sched_run.proofs.WrittenSoFar.{AreLinesOf}
use Rattle.sched_run.proofs.made.lines_of.Given as goal

abbrev pub invariant-loop-place : goal.invariant-loop-place
invariant-loop-place l = AreLinesOf l.valid.view l.events l.place l.lines.items
