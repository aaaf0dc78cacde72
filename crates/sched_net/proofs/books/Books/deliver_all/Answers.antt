use Rattle.std.proofs.Common.{map}
use Rattle.inbox.specs.Events.{batch}
use Rattle.sched_net.specs.Numbered.{numbered_parts}
use Rattle.sched_net.proofs.HearingEnds.{batch_is, ended_leaves}
use Rattle.sched_net.proofs.books.Books.deliver_all.Goals as goal

pub returns-clause-answer : goal.returns-clause-answer
returns-clause-answer g c = c.hear_all-result.ensures.answer (batch (numbered_parts c.args.valid.now.view c.args.component c.args.parts.now) c.args.component c.args.replica) (batch_is (numbered_parts c.args.valid.now.view c.args.component c.args.parts.now) c.args.component c.args.replica)

pub returns-clause-leaves : goal.returns-clause-leaves
returns-clause-leaves g c =
    ended_leaves c.args.valid.now.view (map (λ b. (goal.Component-dyn g (b.vtable, b.value)).program b.value) c.args.shells.now.items) (map (λ b. (goal.Component-dyn g (b.vtable, b.value)).kept b.value) c.args.shells.now.items) (map (λ b. (goal.Component-dyn g (b.vtable, b.value)).kept b.value) c.hear_all-result.new.shells.items) c.args.self.now c.hear_all-result.new.self c.end_at.new.self (batch (numbered_parts c.args.valid.now.view c.args.component c.args.parts.now) c.args.component c.args.replica) c.hear_all-result.result
    (c.hear_all-result.ensures.leaves (batch (numbered_parts c.args.valid.now.view c.args.component c.args.parts.now) c.args.component c.args.replica) (batch_is (numbered_parts c.args.valid.now.view c.args.component c.args.parts.now) c.args.component c.args.replica)) c.end_at.ensures
