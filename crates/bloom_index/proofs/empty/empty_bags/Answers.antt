use Rattle.bloom_index.proofs.EmptyLemmas.{bag_more}
use Rattle.bloom_index.proofs.empty.empty_bags.Goals as goal

pub loop-preserved : goal.loop-preserved
loop-preserved c = bag_more c.loop.counter c.loop.bags.items c.push.new.self.items c.new.result c.in_ok-push.ensures.items c.new.ensures c.loop.invariant
