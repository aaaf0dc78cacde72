-- the lines so far
use Rattle.std.proofs.Common.{◌≡◌, take}
use Rattle.std.specs.List.{All}
use Rattle.sched_text.specs.Text.{schedule_text}
use Rattle.sched_text.specs.Small.{IsSmall}
use Rattle.sched_text.proofs.printing.print.Given as goal

abbrev pub invariant-loop-event : goal.invariant-loop-event
invariant-loop-event l = (l.text.items ≡ schedule_text (take l.event-index l.event-items)) × All (λ line. IsSmall line.1) (take l.event-index l.event-items)
