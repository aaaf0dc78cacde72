use Rattle.sched_text.specs.Text.{part_text}
use Rattle.sched_text.specs.Small.{IsSmallPart}
use Rattle.sched_text.proofs.PrintedLines.{one_more_so, one_more_text}
use Rattle.sched_text.proofs.printing.push_parts.Goals as goal

pub loop-part-preserved : goal.loop-part-preserved
loop-part-preserved c = (
  one_more_text part_text c.args.parts.now c.loop-part.part-index c.part-item.result c.args.into.now.items c.loop-part.into.items c.push_part.new.into.items c.loop-part-test.true c.part-item.is c.loop-part.invariant.0 c.in_ok-push_part.ensures.text,
  one_more_so IsSmallPart c.args.parts.now c.loop-part.part-index c.part-item.result c.loop-part-test.true c.part-item.is c.loop-part.invariant.1 c.in_ok-push_part.ensures.small,
)
