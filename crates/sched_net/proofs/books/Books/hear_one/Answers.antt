use Rattle.std.proofs.Common.{[], ◌∷◌, map, sym, ◌∙◌}
use Rattle.sched_net.proofs.HearingEnds.{answers_none}
use Rattle.sched_net.proofs.HearingTests.{hearing_refused}
use Rattle.sched_net.proofs.books.Books.hear_one.Goals as goal

pub returns-then-not-hears_itself-clause-answer : goal.returns-then-not-hears_itself-clause-answer
returns-then-not-hears_itself-clause-answer g c =
    answers_none c.args.valid.now.view c.args.component c.args.replica (map (λ b. (goal.Component-dyn g (b.vtable, b.value)).program b.value) c.args.shells.now.items) (map (λ b. (goal.Component-dyn g (b.vtable, b.value)).kept b.value) c.args.shells.now.items) c.args.self.now (c.args.part ∷ [])
    (hearing_refused c.args.valid.now.view c.args.component c.args.replica (c.args.part ∷ []) (sym c.hears_itself.ensures ∙ c.if-not-hears_itself.true))
