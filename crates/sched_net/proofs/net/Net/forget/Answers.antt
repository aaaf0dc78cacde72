use Rattle.std.proofs.Common.{◌∙◌, sym, map, refl, arith}
use Rattle.std.proofs.lemmas.List.{length-map}
use Rattle.sched_net.specs.Numbered.{component_number}
use Rattle.sched_net.proofs.ForgettingLemmas.{answers_gone, answers_forgotten, leaves_forgotten, forgets_inside, shell_forgets}
use Rattle.sched_net.proofs.net.Net.forget.Goals as goal

pub returns-then-not-is_there-clause-answer : goal.returns-then-not-is_there-clause-answer
returns-then-not-is_there-clause-answer g c = answers_gone c.args.self.now.valid.now.view (map (λ b. (goal.Component-dyn g (b.vtable, b.value)).program b.value) c.args.self.now.shells.items) (map (λ b. (goal.Component-dyn g (b.vtable, b.value)).kept b.value) c.args.self.now.shells.items) c.args.self.now.books c.component_of-number.result (component_number c.args.self.now.valid.now.view c.args.component.now) c.args.replica c.component_of-number.ensures (sym c.is_there.ensures ∙ c.if-not-is_there.true)

pub clear_at-requires : goal.clear_at-requires
clear_at-requires g c = (let inside = shell_forgets c.args.self.now.valid.now.view (map (λ b. (goal.Component-dyn g (b.vtable, b.value)).program b.value) c.args.self.now.shells.items) (map (λ b. (goal.Component-dyn g (b.vtable, b.value)).kept b.value) c.args.self.now.shells.items) c.args.self.now.books c.component_of-number.result c.args.replica c.instance-place.result c.known.ensures c.requires.runs (sym c.is_there.ensures ∙ c.if-not-is_there.false) c.instance-place.ensures in let many = length-map c.args.self.now.shells.items (λ b. (goal.Component-dyn g (b.vtable, b.value)).program b.value) in omega (arith, inside, many))

pub forget_at-requires : goal.forget_at-requires
forget_at-requires g c = forgets_inside c.args.self.now.valid.now.view (map (λ b. (goal.Component-dyn g (b.vtable, b.value)).program b.value) c.args.self.now.shells.items) (map (λ b. (goal.Component-dyn g (b.vtable, b.value)).kept b.value) c.args.self.now.shells.items) c.args.self.now.books c.component_of-number.result c.args.replica c.instance-place.result c.requires.runs (sym c.is_there.ensures ∙ c.if-not-is_there.false) c.instance-place.ensures

pub returns-clause-answer : goal.returns-clause-answer
returns-clause-answer g c = answers_forgotten c.args.self.now.valid.now.view (map (λ b. (goal.Component-dyn g (b.vtable, b.value)).program b.value) c.args.self.now.shells.items) (map (λ b. (goal.Component-dyn g (b.vtable, b.value)).kept b.value) c.args.self.now.shells.items) c.args.self.now.books c.component_of-number.result (component_number c.args.self.now.valid.now.view c.args.component.now) c.args.replica c.known.ensures c.component_of-number.ensures (sym c.is_there.ensures ∙ c.if-not-is_there.false)

pub returns-clause-leaves : goal.returns-clause-leaves
returns-clause-leaves g c =
    leaves_forgotten c.args.self.now.valid.now.view (map (λ b. (goal.Component-dyn g (b.vtable, b.value)).program b.value) c.args.self.now.shells.items) (map (λ b. (goal.Component-dyn g (b.vtable, b.value)).kept b.value) c.args.self.now.shells.items) (map (λ b. (goal.Component-dyn g (b.vtable, b.value)).kept b.value) c.clear_at.new.shells.items) c.args.self.now.books (record { places = c.args.self.now.books.places; lists = c.args.self.now.books.lists; logs = c.args.self.now.books.logs; seats = c.forget_at.new.seats; puts = c.args.self.now.books.puts; ended = c.args.self.now.books.ended }) c.component_of-number.result (component_number c.args.self.now.valid.now.view c.args.component.now) c.args.replica c.instance-place.result c.known.ensures c.component_of-number.ensures (sym c.is_there.ensures ∙ c.if-not-is_there.false) c.instance-place.ensures c.known-2.ensures.pool c.clear_at.ensures.kept c.forget_at.ensures refl refl refl refl
