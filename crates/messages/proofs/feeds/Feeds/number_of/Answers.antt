use Rattle.std.proofs.Common.{ℕ, List, ap, length, subst, sym}
use Rattle.blz_value.specs.Record.{Row}
use Rattle.messages.specs.Views.{views_of}
use Rattle.messages.specs.Code.Tallies.{IsTallied, IsAdded}
use Rattle.messages.proofs.PartitionNumbers.{on_both, kept_numbers, same_numbers, found_number}
use Rattle.messages.proofs.TalliesLemmas.{numbered, seen-same}
use Rattle.messages.proofs.feeds.Feeds.number_of.Goals as goal

pub invariant_of-self : goal.invariant_of-self
invariant_of-self c =
    let f = c.args.self.now in
    let keys = c.number_for.new.keys.keys in
    let lacking = c.number_for.new.lacking.items in
    record {
      tallied =
          on_both (λ number. IsAdded f.carrying f.keys.keys keys f.lacking.items lacking c.args.key.now number) c.number_for.result c.number_for.ensures.number c.number_for.ensures.same
          (λ number h. numbered f.carrying f.keys.keys keys f.lacking.items lacking c.args.key.now number h f.feeds.items f.tallied)
          (λ same. subst (λ (ks : List Row). IsTallied (length ks) f.carrying f.feeds.items lacking) (sym same.keys) (subst (λ (l : List ℕ). IsTallied (length f.keys.keys) f.carrying f.feeds.items l) (sym same.lacking) f.tallied));
    }

pub returns-clause-view : goal.returns-clause-view
returns-clause-view c =
    let f = c.args.self.now in
    let keys = c.number_for.new.keys.keys in
    let lacking = c.number_for.new.lacking.items in
    on_both (λ number. IsAdded f.carrying f.keys.keys keys f.lacking.items lacking c.args.key.now number) c.number_for.result c.number_for.ensures.number c.number_for.ensures.same
    (λ number h. seen-same f.carrying f.keys.keys keys f.lacking.items lacking c.args.key.now number h f.feeds.items f.tallied f.ports.items)
    (λ same. ap (λ (ks : List Row). views_of f.ports.items f.feeds.items ks f.carrying) same.keys)

pub returns-clause-kept : goal.returns-clause-kept
returns-clause-kept c =
    let f = c.args.self.now in
    let keys = c.number_for.new.keys.keys in
    let lacking = c.number_for.new.lacking.items in
    on_both (λ number. IsAdded f.carrying f.keys.keys keys f.lacking.items lacking c.args.key.now number) c.number_for.result c.number_for.ensures.number c.number_for.ensures.same
    (λ number h. kept_numbers f.carrying f.keys.keys keys f.lacking.items lacking c.args.key.now number h)
    (λ same. same_numbers f.keys.keys keys f.lacking.items lacking same)

pub returns-clause-number : goal.returns-clause-number
returns-clause-number c =
    let f = c.args.self.now in
    found_number f.carrying f.keys.keys c.number_for.new.keys.keys f.lacking.items c.number_for.new.lacking.items c.args.key.now c.number_for.result c.number_for.ensures.number
