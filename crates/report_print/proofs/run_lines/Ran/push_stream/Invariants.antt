-- the lines so far
use Rattle.report_print.specs.RunText.{contents_lines}
use Rattle.report_print.proofs.RunLoops.{IsSoFar}
use Rattle.report_print.proofs.run_lines.Ran.push_stream.Given as goal

abbrev pub invariant-loop-replica : goal.invariant-loop-replica
invariant-loop-replica g l = IsSoFar l.self.valid.now.view l.self.net.now.books (λ given x. contents_lines l.self.valid.now.view given x l.stream) l.initial.text.items l.replica l.text.items
