-- the lines so far
use Rattle.report_print.specs.RunText.{stream_lines}
use Rattle.report_print.proofs.RunLoops.{IsSoFar}
use Rattle.report_print.proofs.run_lines.Ran.push_streams.Given as goal

abbrev pub invariant-loop-stream : goal.invariant-loop-stream
invariant-loop-stream g l = IsSoFar l.self.valid.now.view l.self.net.now.books (stream_lines l.self.valid.now.view) l.initial.text.items l.stream l.text.items
