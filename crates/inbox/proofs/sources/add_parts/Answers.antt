use Rattle.inbox.proofs.SourceKeys.{part_more}
use Rattle.inbox.proofs.sources.add_parts.Goals as goal

pub loop-part-preserved : goal.loop-part-preserved
loop-part-preserved c = λ own is.
    part_more own c.args.parts.now c.loop-part.part-index c.part-item.result c.in_ok-copy.field-0 c.loop-part.keys.keys c.insert.new.self.keys
    c.loop-part-test.true c.part-item.is c.in_ok-copy.ensures (c.loop-part.invariant own is) c.in_ok-insert.ensures.keys
