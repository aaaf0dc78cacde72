-- the lines so far
use Rattle.report_print.specs.RunText.{held_lines}
use Rattle.report_print.proofs.RunLoops.{IsSoFar}
use Rattle.report_print.proofs.run_lines.Ran.push_all_held.Given as goal

abbrev pub invariant-loop-component : goal.invariant-loop-component
invariant-loop-component g l = IsSoFar l.self.valid.now.view l.self.net.now.books (λ given x. held_lines l.self.valid.now.view x) l.initial.text.items l.component l.text.items
