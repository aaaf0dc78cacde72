use Rattle.std.proofs.Common.{map}
use Rattle.inbox.specs.Events.{take_one}
use Rattle.sched_net.proofs.HearingEnds.{ended_leaves}
use Rattle.sched_net.proofs.books.Books.take.Goals as goal

pub returns-clause-leaves : goal.returns-clause-leaves
returns-clause-leaves g c =
    ended_leaves c.args.valid.now.view (map (λ b. (goal.Component-dyn g (b.vtable, b.value)).program b.value) c.args.shells.now.items) (map (λ b. (goal.Component-dyn g (b.vtable, b.value)).kept b.value) c.args.shells.now.items) (map (λ b. (goal.Component-dyn g (b.vtable, b.value)).kept b.value) c.take_next-result.new.shells.items) c.args.self.now c.take_next-result.new.self c.end_at.new.self (take_one c.args.component c.args.replica) c.take_next-result.result c.take_next-result.ensures.leaves c.end_at.ensures
