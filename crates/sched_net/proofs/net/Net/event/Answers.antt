use Rattle.std.proofs.Common.{ℕ, map, ap, sym, subst, ◌∙◌}
use Rattle.inbox.specs.Events.{Event, Part, deliver, batch, order, take_one}
use Rattle.sched_net.specs.Net.{EventAnswers, EventLeaves}
use Rattle.sched_net.specs.Numbered.{numbered, numbered_part, numbered_parts}
use Rattle.sched_net.proofs.net.Net.event.Goals as goal

pub returns-in-Deliver-clause-answer : goal.returns-in-Deliver-clause-answer
returns-in-Deliver-clause-answer g c =
    subst (λ (e : Event). EventAnswers c.args.self.now.valid.now.view (map (λ b. (goal.Component-dyn g (b.vtable, b.value)).program b.value) c.args.self.now.shells.items) (map (λ b. (goal.Component-dyn g (b.vtable, b.value)).kept b.value) c.args.self.now.shells.items) c.args.self.now.books e c.numbered_event.result)
    (ap (λ (p : Part). deliver p c.component-number.result c.in-Deliver.replica) c.part-part.ensures ∙ ap (λ (n : ℕ). deliver (numbered_part c.args.self.now.valid.now.view n c.in-Deliver.sent c.in-Deliver.port) n c.in-Deliver.replica) c.component-number.ensures ∙ sym (ap (numbered c.args.self.now.valid.now.view) c.in-Deliver.is))
    c.numbered_event.ensures.answer

pub returns-in-Deliver-clause-leaves : goal.returns-in-Deliver-clause-leaves
returns-in-Deliver-clause-leaves g c =
    subst (λ (e : Event). EventLeaves c.args.self.now.valid.now.view (map (λ b. (goal.Component-dyn g (b.vtable, b.value)).program b.value) c.args.self.now.shells.items) (map (λ b. (goal.Component-dyn g (b.vtable, b.value)).kept b.value) c.args.self.now.shells.items) (map (λ b. (goal.Component-dyn g (b.vtable, b.value)).kept b.value) c.numbered_event.new.self.shells.items) c.args.self.now.books c.numbered_event.new.self.books e c.numbered_event.result)
    (ap (λ (p : Part). deliver p c.component-number.result c.in-Deliver.replica) c.part-part.ensures ∙ ap (λ (n : ℕ). deliver (numbered_part c.args.self.now.valid.now.view n c.in-Deliver.sent c.in-Deliver.port) n c.in-Deliver.replica) c.component-number.ensures ∙ sym (ap (numbered c.args.self.now.valid.now.view) c.in-Deliver.is))
    c.numbered_event.ensures.leaves

pub returns-in-Batch-clause-answer : goal.returns-in-Batch-clause-answer
returns-in-Batch-clause-answer g c =
    subst (λ (e : Event). EventAnswers c.args.self.now.valid.now.view (map (λ b. (goal.Component-dyn g (b.vtable, b.value)).program b.value) c.args.self.now.shells.items) (map (λ b. (goal.Component-dyn g (b.vtable, b.value)).kept b.value) c.args.self.now.shells.items) c.args.self.now.books e c.deliver_all.result)
    (ap (λ parts. batch (numbered_parts c.args.self.now.valid.now.view c.component-number-in-Batch.result parts) c.component-number-in-Batch.result c.in-Batch.replica) c.as_slice.ensures ∙ ap (λ (n : ℕ). batch (numbered_parts c.args.self.now.valid.now.view n c.in-Batch.parts) n c.in-Batch.replica) c.component-number-in-Batch.ensures ∙ sym (ap (numbered c.args.self.now.valid.now.view) c.in-Batch.is))
    c.deliver_all.ensures.answer

pub returns-in-Batch-clause-leaves : goal.returns-in-Batch-clause-leaves
returns-in-Batch-clause-leaves g c =
    subst (λ (e : Event). EventLeaves c.args.self.now.valid.now.view (map (λ b. (goal.Component-dyn g (b.vtable, b.value)).program b.value) c.args.self.now.shells.items) (map (λ b. (goal.Component-dyn g (b.vtable, b.value)).kept b.value) c.args.self.now.shells.items) (map (λ b. (goal.Component-dyn g (b.vtable, b.value)).kept b.value) c.deliver_all.new.shells.items) c.args.self.now.books c.deliver_all.new.self e c.deliver_all.result)
    (ap (λ parts. batch (numbered_parts c.args.self.now.valid.now.view c.component-number-in-Batch.result parts) c.component-number-in-Batch.result c.in-Batch.replica) c.as_slice.ensures ∙ ap (λ (n : ℕ). batch (numbered_parts c.args.self.now.valid.now.view n c.in-Batch.parts) n c.in-Batch.replica) c.component-number-in-Batch.ensures ∙ sym (ap (numbered c.args.self.now.valid.now.view) c.in-Batch.is))
    c.deliver_all.ensures.leaves

pub returns-in-Order-clause-answer : goal.returns-in-Order-clause-answer
returns-in-Order-clause-answer g c =
    subst (λ (e : Event). EventAnswers c.args.self.now.valid.now.view (map (λ b. (goal.Component-dyn g (b.vtable, b.value)).program b.value) c.args.self.now.shells.items) (map (λ b. (goal.Component-dyn g (b.vtable, b.value)).kept b.value) c.args.self.now.shells.items) c.args.self.now.books e c.numbered_event-in-Order.result)
    (ap (λ (p : Part). order p c.component-number-in-Order.result) c.part-part-in-Order.ensures ∙ ap (λ (n : ℕ). order (numbered_part c.args.self.now.valid.now.view n c.in-Order.sent c.in-Order.port) n) c.component-number-in-Order.ensures ∙ sym (ap (numbered c.args.self.now.valid.now.view) c.in-Order.is))
    c.numbered_event-in-Order.ensures.answer

pub returns-in-Order-clause-leaves : goal.returns-in-Order-clause-leaves
returns-in-Order-clause-leaves g c =
    subst (λ (e : Event). EventLeaves c.args.self.now.valid.now.view (map (λ b. (goal.Component-dyn g (b.vtable, b.value)).program b.value) c.args.self.now.shells.items) (map (λ b. (goal.Component-dyn g (b.vtable, b.value)).kept b.value) c.args.self.now.shells.items) (map (λ b. (goal.Component-dyn g (b.vtable, b.value)).kept b.value) c.numbered_event-in-Order.new.self.shells.items) c.args.self.now.books c.numbered_event-in-Order.new.self.books e c.numbered_event-in-Order.result)
    (ap (λ (p : Part). order p c.component-number-in-Order.result) c.part-part-in-Order.ensures ∙ ap (λ (n : ℕ). order (numbered_part c.args.self.now.valid.now.view n c.in-Order.sent c.in-Order.port) n) c.component-number-in-Order.ensures ∙ sym (ap (numbered c.args.self.now.valid.now.view) c.in-Order.is))
    c.numbered_event-in-Order.ensures.leaves

pub returns-in-Take-clause-answer : goal.returns-in-Take-clause-answer
returns-in-Take-clause-answer g c =
    subst (λ (e : Event). EventAnswers c.args.self.now.valid.now.view (map (λ b. (goal.Component-dyn g (b.vtable, b.value)).program b.value) c.args.self.now.shells.items) (map (λ b. (goal.Component-dyn g (b.vtable, b.value)).kept b.value) c.args.self.now.shells.items) c.args.self.now.books e c.numbered_event-in-Take.result)
    (ap (λ (n : ℕ). take_one n c.in-Take.replica) c.component-number-in-Take.ensures ∙ sym (ap (numbered c.args.self.now.valid.now.view) c.in-Take.is))
    c.numbered_event-in-Take.ensures.answer

pub returns-in-Take-clause-leaves : goal.returns-in-Take-clause-leaves
returns-in-Take-clause-leaves g c =
    subst (λ (e : Event). EventLeaves c.args.self.now.valid.now.view (map (λ b. (goal.Component-dyn g (b.vtable, b.value)).program b.value) c.args.self.now.shells.items) (map (λ b. (goal.Component-dyn g (b.vtable, b.value)).kept b.value) c.args.self.now.shells.items) (map (λ b. (goal.Component-dyn g (b.vtable, b.value)).kept b.value) c.numbered_event-in-Take.new.self.shells.items) c.args.self.now.books c.numbered_event-in-Take.new.self.books e c.numbered_event-in-Take.result)
    (ap (λ (n : ℕ). take_one n c.in-Take.replica) c.component-number-in-Take.ensures ∙ sym (ap (numbered c.args.self.now.valid.now.view) c.in-Take.is))
    c.numbered_event-in-Take.ensures.leaves
