use Rattle.std.proofs.Common.{ℕ, List, ap, length, subst, sym}
use Rattle.blz_value.specs.Record.{Row}
use Rattle.messages.specs.Feeds.{IsCleared}
use Rattle.messages.specs.Views.{views_of}
use Rattle.messages.specs.Whole.{feeds_view}
use Rattle.messages.specs.Code.Tallies.{IsTallied}
use Rattle.messages.proofs.TalliesLemmas.{fresh_tallied}
use Rattle.messages.proofs.HearingLemmas.{cleared_carrying, cleared_few, cleared_seen}
use Rattle.messages.proofs.feeds.Feeds.clear.Goals as goal

pub invariant_of-self : goal.invariant_of-self
invariant_of-self c =
    let f = c.args.self.now in
    let new = c.clear_feeds.new.feeds.items in
    record {
      tallied =
          subst (λ (n : ℕ). IsTallied n f.carrying new c.clear-2.new.self.items) (sym (ap length c.clear.ensures.empty))
          (subst (λ (l : List ℕ). IsTallied 0 f.carrying new l) (sym c.clear-2.ensures.items)
          (fresh_tallied f.carrying new (cleared_carrying f.feeds.items new f.carrying c.clear_feeds.ensures f.tallied.all) (cleared_few f.feeds.items new c.clear_feeds.ensures)));
    }

pub returns : goal.returns
returns c =
    let f = c.args.self.now in
    let new = c.clear_feeds.new.feeds.items in
    subst (λ (keys : List Row). IsCleared (feeds_view f) (views_of f.ports.items new keys f.carrying)) (sym c.clear.ensures.empty)
    (cleared_seen f.ports.items f.feeds.items new f.keys.keys f.carrying c.clear_feeds.ensures)
