use Rattle.std.proofs.Common.{◌<◌, ℕ, arith, subst, sym}
use Rattle.messages.specs.Views.{feed_view}
use Rattle.messages.specs.Code.Tallies.{IsTallied}
use Rattle.messages.proofs.FeedsLemmas.{on_ok, views-length}
use Rattle.messages.proofs.HearingLemmas.{seal_seen}
use Rattle.messages.proofs.PartitionNumbers.{number_at}
use Rattle.messages.proofs.feeds.Feeds.hear_seal.Goals as goal

pub hear_seal_at-requires-clause-feed : goal.hear_seal_at-requires-clause-feed
hear_seal_at-requires-clause-feed c = subst (λ (n : ℕ). c.args.feed < n) (views-length (feed_view c.args.self.now.keys.keys) c.args.self.now.feeds.items) c.requires.feed

pub hear_seal_at-requires-clause-number : goal.hear_seal_at-requires-clause-number
hear_seal_at-requires-clause-number c =
    let long = c.args.self.now.tallied.as_long in
    let within = c.requires.number in
    omega (arith, long, within)

pub hear_seal_at-requires-clause-lacks : goal.hear_seal_at-requires-clause-lacks
hear_seal_at-requires-clause-lacks c = c.args.self.now.tallied.each c.args.number c.requires.number

pub invariant_of-self : goal.invariant_of-self
invariant_of-self c =
    let f = c.args.self.now in
    record {
      tallied =
          subst (λ (n : ℕ). IsTallied n f.carrying c.hear_seal_at.new.feeds.items c.hear_seal_at.new.lacking.items) f.tallied.as_long
          (c.hear_seal_at.ensures.tallied f.carrying (subst (λ (n : ℕ). IsTallied n f.carrying f.feeds.items f.lacking.items) (sym f.tallied.as_long) f.tallied));
    }

pub returns-clause-heard : goal.returns-clause-heard
returns-clause-heard c =
    let f = c.args.self.now in
    let keys = f.keys.keys in
    on_ok c.hear_seal_at.result (λ heard key has.
    seal_seen keys key c.args.number (number_at keys key c.args.number c.len-count.ensures.unique has) f.ports.items f.feeds.items c.hear_seal_at.new.feeds.items f.carrying c.args.feed (subst (λ (n : ℕ). c.args.feed < n) (views-length (feed_view keys) f.feeds.items) c.requires.feed) c.args.count heard)
    c.hear_seal_at.ensures.heard
