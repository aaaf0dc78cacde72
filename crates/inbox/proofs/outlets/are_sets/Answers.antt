use Rattle.inbox.proofs.PutsRead.{sets_all, sets_more}
use Rattle.inbox.proofs.outlets.are_sets.Goals as goal

pub loop-put-preserved : goal.loop-put-preserved
loop-put-preserved c = sets_more c.args.puts.now c.as_slice-put-items.result.now c.loop-put.put-index c.put-item.result c.as_slice-put-items.ensures c.loop-put-test.true c.put-item.is c.loop-put.invariant c.is_set.ensures

pub returns : goal.returns
returns c = sets_all c.args.puts.now c.as_slice-put-items.result.now c.loop-put.put-index c.as_slice-put-items.ensures c.loop-put-test.false c.loop-put.invariant
