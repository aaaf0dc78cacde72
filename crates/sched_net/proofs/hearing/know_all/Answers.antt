use Rattle.sched_net.proofs.KnownIndexes.{knows_one, knows_all}
use Rattle.sched_net.proofs.hearing.know_all.Goals as goal

pub loop-index-preserved : goal.loop-index-preserved
loop-index-preserved c = knows_one c.args.known.now c.loop-index.known c.know.new.self c.args.indexes.now c.loop-index.index-index _ c.loop-index-test.true c.in_ok-know.ensures.ok c.loop-index.invariant

pub returns : goal.returns
returns c = knows_all c.args.known.now c.loop-index.known c.args.indexes.now c.loop-index.index-index c.loop-index-test.false c.loop-index.invariant
