use Rattle.std.proofs.Common.{◌≡◌, ◌<◌, ◌∙◌, ap, length, refl, subst, sym, arith}
use Rattle.std.specs.List.{list_any}
use Rattle.std.proofs.lemmas.List.{length-set}
use Rattle.messages.specs.declared.message.Message.TheVariants.{Seal}
use Rattle.messages.specs.EmittedIds.{is_seal_of}
use Rattle.messages.specs.Lists.{Listed, list_at, total}
use Rattle.messages.proofs.Ids.{pushed_keeps}
use Rattle.messages.proofs.ListSeals.{list_found}
use Rattle.messages.proofs.Tallies.{tallied_sealed}
use Rattle.messages.proofs.lists.Lists.push_seal.Goals as goal

pub push_seal-requires : goal.push_seal-requires
push_seal-requires c =
    let here : c.index_mut.result.now ≡ list_at c.args.self.now.lists c.args.place = list_found c.self.inside.lists.items c.args.self.now c.args.place c.index_mut.result.now c.index_mut.result.now (ap (λ (l : Listed). l.lists) c.self.view_is) c.requires.place c.index_mut.ensures.value refl in
    ap (λ k. list_any (is_seal_of k) c.index_mut.result.now) c.in_ok-copy.ensures ∙ ap (list_any (is_seal_of c.args.key.now)) here ∙ c.requires.new

pub invariant_of-self-2 : goal.invariant_of-self-2
invariant_of-self-2 c =
    let within : c.args.place < length c.self.inside.lists.items = subst (λ (l : Listed). c.args.place < length l.lists) (sym c.self.view_is) c.requires.place in
    let kept =
    pushed_keeps c.self.inside.pool c.self.inside.lists.items c.args.place c.self.inside.count (Seal c.in_ok-copy.field-0 c.args.count) c.index_mut.result.now c.push_seal.new.self
    c.self.invariant.0 c.self.invariant.1 c.self.invariant.2 (λ full. omega (arith, full, c.self.invariant.1, ap (λ (l : Listed). total l.lists) c.self.view_is, c.requires.room))
    within tt c.index_mut.ensures.value c.in_ok-push_seal.ensures.ok in (
      kept.0,
      kept.1,
      kept.2,
      c.self.invariant.3 ∙ sym (length-set c.self.inside.lists.items c.args.place c.push_seal.new.self),
      tallied_sealed c.self.inside.pool c.self.inside.tallies.items c.self.inside.lists.items c.args.place c.self.invariant.3 within c.self.invariant.4
          c.index_mut.result.now c.push_seal.new.self c.index_mut.ensures.value c.in_ok-copy.field-0 c.args.count c.in_ok-push_seal.ensures.ok,
    )
