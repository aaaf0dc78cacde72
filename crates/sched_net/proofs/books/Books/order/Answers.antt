use Rattle.inbox.specs.Events.{order}
use Rattle.sched_net.proofs.HearingEnds.{ended_leaves}
use Rattle.sched_net.proofs.books.Books.order.Goals as goal

pub returns-clause-leaves : goal.returns-clause-leaves
returns-clause-leaves c loaded tables =
    ended_leaves c.args.valid.now.view loaded tables tables c.args.self.now c.order_next-result.new.self c.end_at.new.self (order c.args.part c.args.component) c.order_next-result.result (c.order_next-result.ensures.leaves loaded tables) c.end_at.ensures
