use Rattle.std.proofs.Common.{map, ap, sym, subst}
use Rattle.inbox.specs.Events.{Event}
use Rattle.sched_net.specs.Net.{EventAnswers, EventLeaves}
use Rattle.sched_net.specs.Numbered.{event_by_numbers}
use Rattle.sched_net.proofs.net.Net.numbered_event.Goals as goal

pub returns-in-Deliver-clause-answer : goal.returns-in-Deliver-clause-answer
returns-in-Deliver-clause-answer g c =
    subst (λ (e : Event). EventAnswers c.args.self.now.valid.now.view (map (λ b. (goal.Component-dyn g (b.vtable, b.value)).program b.value) c.args.self.now.shells.items) (map (λ b. (goal.Component-dyn g (b.vtable, b.value)).kept b.value) c.args.self.now.shells.items) c.args.self.now.books e c.deliver.result)
    (sym (ap event_by_numbers c.in-Deliver.is))
    c.deliver.ensures.answer

pub returns-in-Deliver-clause-leaves : goal.returns-in-Deliver-clause-leaves
returns-in-Deliver-clause-leaves g c =
    subst (λ (e : Event). EventLeaves c.args.self.now.valid.now.view (map (λ b. (goal.Component-dyn g (b.vtable, b.value)).program b.value) c.args.self.now.shells.items) (map (λ b. (goal.Component-dyn g (b.vtable, b.value)).kept b.value) c.args.self.now.shells.items) (map (λ b. (goal.Component-dyn g (b.vtable, b.value)).kept b.value) c.deliver.new.shells.items) c.args.self.now.books c.deliver.new.self e c.deliver.result)
    (sym (ap event_by_numbers c.in-Deliver.is))
    c.deliver.ensures.leaves

pub returns-in-Order-clause-answer : goal.returns-in-Order-clause-answer
returns-in-Order-clause-answer g c =
    subst (λ (e : Event). EventAnswers c.args.self.now.valid.now.view (map (λ b. (goal.Component-dyn g (b.vtable, b.value)).program b.value) c.args.self.now.shells.items) (map (λ b. (goal.Component-dyn g (b.vtable, b.value)).kept b.value) c.args.self.now.shells.items) c.args.self.now.books e c.order.result)
    (sym (ap event_by_numbers c.in-Order.is))
    (c.order.ensures.answer (map (λ b. (goal.Component-dyn g (b.vtable, b.value)).program b.value) c.args.self.now.shells.items) (map (λ b. (goal.Component-dyn g (b.vtable, b.value)).kept b.value) c.args.self.now.shells.items))

pub returns-in-Order-clause-leaves : goal.returns-in-Order-clause-leaves
returns-in-Order-clause-leaves g c =
    subst (λ (e : Event). EventLeaves c.args.self.now.valid.now.view (map (λ b. (goal.Component-dyn g (b.vtable, b.value)).program b.value) c.args.self.now.shells.items) (map (λ b. (goal.Component-dyn g (b.vtable, b.value)).kept b.value) c.args.self.now.shells.items) (map (λ b. (goal.Component-dyn g (b.vtable, b.value)).kept b.value) c.args.self.now.shells.items) c.args.self.now.books c.order.new.self e c.order.result)
    (sym (ap event_by_numbers c.in-Order.is))
    (c.order.ensures.leaves (map (λ b. (goal.Component-dyn g (b.vtable, b.value)).program b.value) c.args.self.now.shells.items) (map (λ b. (goal.Component-dyn g (b.vtable, b.value)).kept b.value) c.args.self.now.shells.items))

pub returns-in-Take-clause-answer : goal.returns-in-Take-clause-answer
returns-in-Take-clause-answer g c =
    subst (λ (e : Event). EventAnswers c.args.self.now.valid.now.view (map (λ b. (goal.Component-dyn g (b.vtable, b.value)).program b.value) c.args.self.now.shells.items) (map (λ b. (goal.Component-dyn g (b.vtable, b.value)).kept b.value) c.args.self.now.shells.items) c.args.self.now.books e c.take.result)
    (sym (ap event_by_numbers c.in-Take.is))
    c.take.ensures.answer

pub returns-in-Take-clause-leaves : goal.returns-in-Take-clause-leaves
returns-in-Take-clause-leaves g c =
    subst (λ (e : Event). EventLeaves c.args.self.now.valid.now.view (map (λ b. (goal.Component-dyn g (b.vtable, b.value)).program b.value) c.args.self.now.shells.items) (map (λ b. (goal.Component-dyn g (b.vtable, b.value)).kept b.value) c.args.self.now.shells.items) (map (λ b. (goal.Component-dyn g (b.vtable, b.value)).kept b.value) c.take.new.shells.items) c.args.self.now.books c.take.new.self e c.take.result)
    (sym (ap event_by_numbers c.in-Take.is))
    c.take.ensures.leaves
