use Rattle.std.proofs.Common.{◌≡◌, ◌∙◌, ℕ, List, ap, length, subst, sym}
use Rattle.std.specs.List.{count_by}
use Rattle.blz_value.specs.Record.{Row}
use Rattle.messages.specs.Feeds.{IsFresh}
use Rattle.messages.specs.Ports.{port_keys}
use Rattle.messages.specs.Views.{views_of}
use Rattle.messages.specs.Code.Hearing.{AreEmpty}
use Rattle.messages.specs.Code.Tallies.{IsTallied}
use Rattle.messages.specs.declared.feed.Feed.{Feed}
use Rattle.messages.specs.declared.port.Port.{Port}
use Rattle.messages.proofs.TalliesLemmas.{fresh_tallied}
use Rattle.messages.proofs.HearingLemmas.{empty_few, fresh_seen}
use Rattle.messages.proofs.feeds.Feeds.new.Goals as goal

pub invariant_of-result : goal.invariant_of-result
invariant_of-result c =
    let feeds = c.in_ok-feeds.feeds.items in
    let carrying = c.count_carrying-carrying.result in
    let all : carrying ≡ count_by (λ (f : Feed). f.carries) feeds = c.count_carrying-carrying.ensures ∙ ap (λ (fs : List Feed). count_by (λ (f : Feed). f.carries) fs) c.deref-2.ensures.value in
    record {
      tallied =
          subst (λ (n : ℕ). IsTallied n carrying feeds c.new.result.items) (sym (ap length c.with_hasher.ensures.empty))
          (subst (λ (l : List ℕ). IsTallied 0 carrying feeds l) (sym c.new.ensures.items) (fresh_tallied carrying feeds all (empty_few (port_keys c.deref.result.now) c.args.feed_ports.now feeds c.in_ok-feeds.ensures)));
    }

pub returns : goal.returns
returns c =
    let ports = c.args.ports.items in
    let feeds = c.in_ok-feeds.feeds.items in
    let carrying = c.count_carrying-carrying.result in
    let all : carrying ≡ count_by (λ (f : Feed). f.carries) feeds = c.count_carrying-carrying.ensures ∙ ap (λ (fs : List Feed). count_by (λ (f : Feed). f.carries) fs) c.deref-2.ensures.value in
    let empty : AreEmpty (port_keys ports) c.args.feed_ports.now feeds = subst (λ (p : List Port). AreEmpty (port_keys p) c.args.feed_ports.now feeds) c.deref.ensures.value c.in_ok-feeds.ensures in
    subst (λ (keys : List Row). IsFresh (port_keys ports) c.args.feed_ports.now (views_of ports feeds keys carrying)) (sym c.with_hasher.ensures.empty)
    (fresh_seen ports c.args.feed_ports.now feeds carrying empty all)
