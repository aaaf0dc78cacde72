use Rattle.std.proofs.Common.{List, length, map, sym, subst, ◌∙◌}
use Rattle.std.proofs.lemmas.Bool.{eqb-true}
use Rattle.std.proofs.lemmas.List.{length-map}
use Rattle.sched_text.specs.declared.event.Part.{Part as PartName}
use Rattle.inbox.specs.Events.{Part}
use Rattle.sched_net.specs.Numbered.{numbered_part, numbered_parts}
use Rattle.sched_net.specs.Code.Hearing.{HearingAnswers, HearingLeaves}
use Rattle.sched_net.proofs.HearingEnds.{answers_none}
use Rattle.sched_net.proofs.HearingTests.{hearing_refused, hearing_of_none}
use Rattle.sched_net.proofs.books.Books.hear_all.Goals as goal

pub returns-then-is_empty-clause-answer : goal.returns-then-is_empty-clause-answer
returns-then-is_empty-clause-answer g c =
    answers_none c.args.valid.now.view c.args.component c.args.replica (map (λ b. (goal.Component-dyn g (b.vtable, b.value)).program b.value) c.args.shells.now.items) (map (λ b. (goal.Component-dyn g (b.vtable, b.value)).kept b.value) c.args.shells.now.items) c.args.self.now (numbered_parts c.args.valid.now.view c.args.component c.args.parts.now)
    (hearing_of_none c.args.valid.now.view c.args.component c.args.replica (numbered_parts c.args.valid.now.view c.args.component c.args.parts.now)
    (length-map c.args.parts.now (λ (part : PartName). numbered_part c.args.valid.now.view c.args.component part.sent part.port) ∙ eqb-true (length c.args.parts.now) 0 (sym c.is_empty.ensures ∙ c.if-is_empty.true)))

pub returns-then-not-hears_itself-clause-answer : goal.returns-then-not-hears_itself-clause-answer
returns-then-not-hears_itself-clause-answer g c =
    answers_none c.args.valid.now.view c.args.component c.args.replica (map (λ b. (goal.Component-dyn g (b.vtable, b.value)).program b.value) c.args.shells.now.items) (map (λ b. (goal.Component-dyn g (b.vtable, b.value)).kept b.value) c.args.shells.now.items) c.args.self.now (numbered_parts c.args.valid.now.view c.args.component c.args.parts.now)
    (hearing_refused c.args.valid.now.view c.args.component c.args.replica (numbered_parts c.args.valid.now.view c.args.component c.args.parts.now) (sym c.hears_itself.ensures ∙ c.if-not-hears_itself.true))

pub returns-clause-answer : goal.returns-clause-answer
returns-clause-answer g c =
    subst (λ (parts : List Part). HearingAnswers c.args.valid.now.view (map (λ b. (goal.Component-dyn g (b.vtable, b.value)).program b.value) c.args.shells.now.items) (map (λ b. (goal.Component-dyn g (b.vtable, b.value)).kept b.value) c.args.shells.now.items) c.args.self.now parts c.args.component c.args.replica c.hear_parts.result) (c.as_slice.ensures.value ∙ c.in_ok-numbers.ensures) c.hear_parts.ensures.answer

pub returns-clause-leaves : goal.returns-clause-leaves
returns-clause-leaves g c =
    subst (λ (parts : List Part). HearingLeaves c.args.valid.now.view (map (λ b. (goal.Component-dyn g (b.vtable, b.value)).program b.value) c.args.shells.now.items) (map (λ b. (goal.Component-dyn g (b.vtable, b.value)).kept b.value) c.args.shells.now.items) (map (λ b. (goal.Component-dyn g (b.vtable, b.value)).kept b.value) c.hear_parts.new.shells.items) c.args.self.now c.hear_parts.new.self parts c.args.component c.args.replica c.hear_parts.result) (c.as_slice.ensures.value ∙ c.in_ok-numbers.ensures) c.hear_parts.ensures.leaves
