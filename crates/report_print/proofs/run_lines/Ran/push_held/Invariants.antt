-- the lines so far
use Rattle.inbox.specs.Completeness.{held_count_at}
use Rattle.inbox.specs.Wiring.{wiring_of}
use Rattle.report_print.specs.RunText.{held_line}
use Rattle.report_print.proofs.RunLoops.{IsSoFar}
use Rattle.report_print.proofs.run_lines.Ran.push_held.Given as goal

abbrev pub invariant-loop-replica : goal.invariant-loop-replica
invariant-loop-replica g l = IsSoFar l.self.valid.now.view l.self.net.now.books (λ given x r. held_line l.self.valid.now.view l.component r (held_count_at (wiring_of l.self.valid.now.view) x l.component r)) l.initial.text.items l.replica l.text.items
