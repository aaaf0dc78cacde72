use Rattle.std.proofs.Common.{map}
use Rattle.inbox.specs.Events.{deliver}
use Rattle.sched_net.proofs.HearingEnds.{deliver_is, ended_leaves}
use Rattle.sched_net.proofs.books.Books.deliver.Goals as goal

pub returns-clause-answer : goal.returns-clause-answer
returns-clause-answer g c = c.hear_one-result.ensures.answer (deliver c.args.part c.args.component c.args.replica) (deliver_is c.args.part c.args.component c.args.replica)

pub returns-clause-leaves : goal.returns-clause-leaves
returns-clause-leaves g c =
    ended_leaves c.args.valid.now.view (map (λ b. (goal.Component-dyn g (b.vtable, b.value)).program b.value) c.args.shells.now.items) (map (λ b. (goal.Component-dyn g (b.vtable, b.value)).kept b.value) c.args.shells.now.items) (map (λ b. (goal.Component-dyn g (b.vtable, b.value)).kept b.value) c.hear_one-result.new.shells.items) c.args.self.now c.hear_one-result.new.self c.end_at.new.self (deliver c.args.part c.args.component c.args.replica) c.hear_one-result.result
    (c.hear_one-result.ensures.leaves (deliver c.args.part c.args.component c.args.replica) (deliver_is c.args.part c.args.component c.args.replica)) c.end_at.ensures
