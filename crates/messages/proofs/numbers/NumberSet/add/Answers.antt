use Rattle.std.proofs.Common.{◌∙◌, ◌≡◌, ℕ, false, List, ap, sym, subst, arith}
use Rattle.messages.specs.Numbers.{has_number, HasAlso}
use Rattle.messages.proofs.NumbersLemmas.{already_set, room_counted, few_set, more_set, more_counted}
use Rattle.messages.proofs.numbers.NumberSet.add.Goals as goal

pub returns-then-has_number-clause-also : goal.returns-then-has_number-clause-also
returns-then-has_number-clause-also c =
    already_set c.args.self.now c.args.number
    (ap (λ (words : List ℕ). has_number words c.args.number) (sym (c.as_slice.ensures.value ∙ c.self.view_is)) ∙ sym c.has_number.ensures ∙ c.if-has_number.true)

pub invariant_of-self : goal.invariant_of-self
invariant_of-self c = room_counted c.self.inside.words.items c.make_room.new.words.items c.self.inside.count c.self.invariant c.make_room.ensures.same c.make_room.ensures.few

pub overflow_add-self : goal.overflow_add-self
overflow_add-self c = omega (arith, few_set c.self.inside.words.items c.self.inside.count c.self.invariant)

pub invariant_of-self-2 : goal.invariant_of-self-2
invariant_of-self-2 c =
    let absent : has_number c.self.inside.words.items c.args.number ≡ false =
    ap (λ (words : List ℕ). has_number words c.args.number) (sym c.as_slice.ensures.value) ∙ sym c.has_number.ensures ∙ c.if-has_number.false in
    more_counted c.self.inside.words.items c.make_room.new.words.items c.set_number.new.words.items c.args.number c.self.inside.count c.make_room.ensures.same c.set_number.ensures.also
    c.self.invariant absent c.make_room.ensures.few c.set_number.ensures.count

pub returns-clause-also : goal.returns-clause-also
returns-clause-also c =
    subst (λ (words : List ℕ). HasAlso c.args.number words c.set_number.new.words.items) c.self.view_is
    (more_set c.self.inside.words.items c.make_room.new.words.items c.set_number.new.words.items c.args.number c.self.inside.count c.make_room.ensures.same c.set_number.ensures.also)
