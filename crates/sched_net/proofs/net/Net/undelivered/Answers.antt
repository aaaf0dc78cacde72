use Rattle.std.proofs.Common.{arith}
use Rattle.sched_net.specs.Code.Remaining.{unknown_at}
use Rattle.messages.proofs.CountingLemmas.{sum_below_more}
use Rattle.sched_net.proofs.net.Net.undelivered.Goals as goal

pub loop-number-preserved : goal.loop-number-preserved
loop-number-preserved g c = record {
  count = (let more = sum_below_more (unknown_at c.args.self.now.valid.now.view c.args.self.now.books.lists.lists c.args.known.now c.args.feeds.now) c.loop-number.number in omega (arith, more, c.loop-number.invariant.count, c.undelivered_on-left.ensures.count));
  few = omega (arith, c.loop-number.invariant.few, c.undelivered_on-left.ensures.few);
}
