use Rattle.std.proofs.Common.{◌≡◌, ◌∙◌, ◌++◌, ◌∷◌, [], set, ap, subst}
use Rattle.std.specs.List.{list_any}
use Rattle.messages.specs.declared.message.Message.TheVariants.{Seal}
use Rattle.messages.specs.EmittedIds.{is_seal_of}
use Rattle.messages.specs.Lists.{Listed, list_at}
use Rattle.messages.proofs.SealedSources.{IsSealedBy, sealed_next, count_stays, unsealed_next}
use Rattle.messages.proofs.lists.Lists.seal_partitions.Goals as goal

pub push_seal-requires-clause-new : goal.push_seal-requires-clause-new
push_seal-requires-clause-new c =
    ap (λ (l : Listed). list_any (is_seal_of c.in-Some.key.now) (list_at l.lists c.args.place)) c.count_with_key.ensures.same
    ∙ unsealed_next c.args.self.now c.loop-key.self c.args.place c.args.columns.now c.in-Some.key.now c.next.new.self c.args.keys.now.keys c.requires.place
    (subst (λ rest. IsSealedBy c.args.self.now c.loop-key.self c.args.place c.args.columns.now rest c.args.keys.now.keys) c.in-Some.ensures.steps c.loop-key.invariant)
    c.requires.unsealed c.into_iter-key-iterator.ensures.into_iter_gives.4

pub loop-key-preserved : goal.loop-key-preserved
loop-key-preserved c =
    let same : c.count_with_key.new.self ≡ c.loop-key.self = c.count_with_key.ensures.same in
    sealed_next c.args.self.now c.loop-key.self c.push_seal.new.self c.args.place c.args.columns.now c.in-Some.key.now c.next.new.self c.args.keys.now.keys c.in_ok-count.count c.requires.place
    (subst (λ rest. IsSealedBy c.args.self.now c.loop-key.self c.args.place c.args.columns.now rest c.args.keys.now.keys) c.in-Some.ensures.steps c.loop-key.invariant)
    (c.in_ok-count.ensures.count ∙ count_stays c.args.self.now c.loop-key.self c.args.place c.args.columns.now c.in-Some.key.now c.loop-key.key-iterator c.args.keys.now.keys c.requires.place c.loop-key.invariant)
    (c.in_ok-push_seal.ensures.records ∙ ap (λ (l : Listed). l.records) same)
    (c.in_ok-push_seal.ensures.lists ∙ ap (λ (l : Listed). set l.lists c.args.place (list_at l.lists c.args.place ++ Seal c.in-Some.key.now c.in_ok-count.count ∷ [])) same)
