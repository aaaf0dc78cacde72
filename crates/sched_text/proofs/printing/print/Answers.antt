use Rattle.std.proofs.Common.{[], ◌++◌, codes}
use Rattle.sched_text.specs.Text.{event_text}
use Rattle.sched_text.specs.Small.{IsSmall}
use Rattle.sched_text.proofs.PrintedLines.{one_more_so, one_more_text, all_printed}
use Rattle.sched_text.proofs.printing.print.Goals as goal

pub loop-event-preserved : goal.loop-event-preserved
loop-event-preserved c =
    let lines = c.lines-event-items.result.now in (
      one_more_text (λ line. event_text line.1 ++ codes "\n") lines c.loop-event.event-index c.loop-event-item.result [] c.loop-event.text.items c.push_line.new.into.items c.loop-event-test.true c.loop-event-item.is c.loop-event.invariant.0 c.in_ok-push_line.ensures.text,
      one_more_so (λ line. IsSmall line.1) lines c.loop-event.event-index c.loop-event-item.result c.loop-event-test.true c.loop-event-item.is c.loop-event.invariant.1 c.in_ok-push_line.ensures.small,
    )

pub returns-clause-read_again : goal.returns-clause-read_again
returns-clause-read_again c = all_printed c.args.schedule.now c.lines-event-items.result.now c.loop-event.event-index c.loop-event.text.items c.lines-event-items.ensures c.loop-event-test.false c.loop-event.invariant.0 c.loop-event.invariant.1 c.requires
