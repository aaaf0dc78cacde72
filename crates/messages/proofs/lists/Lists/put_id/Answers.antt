use Rattle.std.proofs.Common.{◌<◌, ◌∙◌, length, subst, sym, arith}
use Rattle.std.proofs.lemmas.List.{length-set}
use Rattle.messages.specs.declared.message.Message.TheVariants.{Row}
use Rattle.messages.specs.Lists.{Listed}
use Rattle.messages.proofs.Ids.{pushed_keeps}
use Rattle.messages.proofs.SubjectLemmas.{new_goes_last}
use Rattle.messages.proofs.Tallies.{room_at, taken_many, tallied_lost, tallied_more}
use Rattle.messages.proofs.lists.Lists.put_id.Goals as goal

pub with_one-requires : goal.with_one-requires
with_one-requires c =
    let within : c.args.place < length c.self.inside.lists.items = subst (λ (l : Listed). c.args.place < length l.lists) (sym c.self.view_is) c.requires.place in
    record {
      room = room_at c.self.inside.pool c.self.inside.tallies.items c.self.inside.lists.items c.args.place c.self.invariant.3 within c.self.invariant.4
          c.take_tally-tally.result c.take_tally-tally.ensures.taken (omega (arith, c.self.invariant.1, c.self.invariant.2));
    }

pub invariant_of-self-in_err-self-inside : goal.invariant_of-self-in_err-self-inside
invariant_of-self-in_err-self-inside c =
    let within : c.args.place < length c.self.inside.lists.items = subst (λ (l : Listed). c.args.place < length l.lists) (sym c.self.view_is) c.requires.place in
    let kept =
    pushed_keeps c.self.inside.pool c.self.inside.lists.items c.args.place c.self.inside.count (Row c.args.id) c.index_mut.result.now c.add_row.new.self
    c.self.invariant.0 c.self.invariant.1 c.self.invariant.2 c.if-self-eq-MAX_MESSAGES.false
    within
    (subst (λ (l : Listed). c.args.id < length l.records) (sym c.self.view_is) c.requires.id)
    c.index_mut.ensures.value (new_goes_last c.index_mut.result.now c.add_row.new.self c.args.id c.in_ok-is_new.is_new c.in_ok-is_new.ensures.new c.if-not-is_new.false c.in_ok-is_new.ensures.ok) in (
      kept.0,
      kept.1,
      kept.2,
      taken_many c.self.inside.tallies.items c.take_tally-tally.new.tallies.items c.args.place c.take_tally-tally.ensures.left
          ∙ c.self.invariant.3
          ∙ sym (length-set c.self.inside.lists.items c.args.place c.add_row.new.self),
      tallied_lost c.self.inside.pool c.self.inside.tallies.items c.self.inside.lists.items c.args.place c.self.invariant.3 within c.self.invariant.4
          c.index_mut.result.now c.add_row.new.self c.index_mut.ensures.value c.take_tally-tally.new.tallies.items c.take_tally-tally.ensures.left,
    )

pub invariant_of-self-2 : goal.invariant_of-self-2
invariant_of-self-2 c =
    let within : c.args.place < length c.self.inside.lists.items = subst (λ (l : Listed). c.args.place < length l.lists) (sym c.self.view_is) c.requires.place in
    let kept =
    pushed_keeps c.self.inside.pool c.self.inside.lists.items c.args.place c.self.inside.count (Row c.args.id) c.index_mut.result.now c.add_row.new.self
    c.self.invariant.0 c.self.invariant.1 c.self.invariant.2 c.if-self-eq-MAX_MESSAGES.false
    within
    (subst (λ (l : Listed). c.args.id < length l.records) (sym c.self.view_is) c.requires.id)
    c.index_mut.ensures.value (new_goes_last c.index_mut.result.now c.add_row.new.self c.args.id c.in_ok-is_new.is_new c.in_ok-is_new.ensures.new c.if-not-is_new.false c.in_ok-is_new.ensures.ok) in (
      kept.0,
      kept.1,
      kept.2,
      length-set c.take_tally-tally.new.tallies.items c.args.place c.in_ok-self-inside.field-0
          ∙ taken_many c.self.inside.tallies.items c.take_tally-tally.new.tallies.items c.args.place c.take_tally-tally.ensures.left
          ∙ c.self.invariant.3
          ∙ sym (length-set c.self.inside.lists.items c.args.place c.add_row.new.self),
      tallied_more c.self.inside.pool c.self.inside.tallies.items c.self.inside.lists.items c.args.place c.self.invariant.3 within c.self.invariant.4
          c.index_mut.result.now c.add_row.new.self c.index_mut.ensures.value
          c.take_tally-tally.new.tallies.items c.take_tally-tally.result c.in_ok-self-inside.field-0 c.args.id c.get.result.now
          (new_goes_last c.index_mut.result.now c.add_row.new.self c.args.id c.in_ok-is_new.is_new c.in_ok-is_new.ensures.new c.if-not-is_new.false c.in_ok-is_new.ensures.ok) c.get.ensures.record c.take_tally-tally.ensures.taken c.take_tally-tally.ensures.left c.in_ok-self-inside.ensures,
    )
