-- the lines so far
use Rattle.std.proofs.Common.{length}
use Rattle.sched_text.proofs.ReadingLemmas.{AreReadLines}
use Rattle.sched_text.proofs.lines.read_lines.Given as goal

abbrev pub invariant-loop-line : goal.invariant-loop-line
invariant-loop-line g l = AreReadLines g.T.FromLine.reading l.text l.entries.items l.number l.lines

abbrev pub decreases-loop-line : goal.decreases-loop-line
decreases-loop-line g l = length l.lines
