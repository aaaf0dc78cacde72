-- A record that was heard was emitted by a feed of its port, and of a whole partition a carrying port has heard all.
use Rattle.std.proofs.Common.{◌≡◌, refl, ap, subst, ◌∙◌, ℕ, ◌<◌, true, List, length, Option, None, Some}
use Rattle.std.specs.Option.{option_map, unwrap_or}
use Rattle.blz_value.specs.Members.{Has}
use Rattle.blz_value.specs.Record.{Row}
use Rattle.blz_value.specs.Operators.{cells}
use Rattle.blz_value.proofs.Membership.{Has-filter}
use Rattle.topo_forms.specs.Data.{Data}
use Rattle.topo_forms.specs.Messages.{row, is_same_row}
use Rattle.blz_value.specs.NumberSets.{below}
use Rattle.topo_forms.proofs.Regions.Spreading.{in_below}
use Rattle.messages.specs.Messages.{Pair, Entry}
use Rattle.inbox.specs.Instances.{Instance, port_of_feed, key_places_at, is_carrying, entries_of, key_of_entry}
use Rattle.inbox.specs.Timesteps.{is_whole}
use Rattle.inbox.specs.Wiring.{Wiring}
use Rattle.inbox.specs.Executions.{Execution, emitted_list}
use Rattle.inbox.specs.Growth.{feed_numbered, ComesFrom}
use Rattle.messages.proofs.MessagesLemmas.{is_same_row-itself}
use Rattle.inbox.proofs.TimestepLemmas.Entries.{heard_entry}
use Rattle.confluence.specs.Honest.{IsHonest}
use Rattle.confluence.specs.Partitions.{IsFed}
use Rattle.confluence.proofs.Honest.HeardWhole.{heard_whole}

module _ (w : Wiring) (given : Data) (x : Execution) (i : Instance) where
  -- all of these pairs come from feeds
  abbrev pub AllCome : List Pair → Type 0
  AllCome heard = (pair : Pair) → Has pair heard → ComesFrom w given x i pair

  -- the lists of the feeds of a port are honest
  abbrev pub IsFedHonestly : (port : ℕ) → Type 0
  IsFedHonestly port = (feed : ℕ) (places : List ℕ) → feed < length i.feeds → port_of_feed i feed ≡ port → key_places_at i port ≡ Some places
      → IsHonest places (emitted_list w given x (feed_numbered i feed).stream (feed_numbered i feed).sender)

  -- what was heard at a port a feed of the port has emitted
  pub heard_fed : (heard : List Pair) → AllCome heard → (entry : Entry) → Has entry (entries_of i heard) → IsFed w given x i entry.0 entry.1
  heard_fed heard come entry h =
      let e = heard_entry i heard entry h in
      let c = come (e.feed, row entry.1) e.there in
      record { feed = e.feed; within = c.of_feed; at = e.port; sent = c.sent }

  by_places : (r key : Row) (o : Option (List ℕ)) → option_map (λ places. cells places r) o ≡ Some key → (places : List ℕ) × (o ≡ Some places) × (cells places r ≡ key)
  by_places r key None e = cc
  by_places r key (Some places) e = (places, refl, ap (λ z. unwrap_or z key) e)

  -- where a partition is whole, a carrying port has heard all of its records that feeds of the port have emitted
  pub whole_heard : (heard : List Pair) → AllCome heard → (key : Row) → is_whole i heard key ≡ true → (port : ℕ) (r : Row) → is_carrying i port ≡ true → IsFedHonestly port → IsFed w given x i port r → key_of_entry i (port, r) ≡ Some key → Has (port, r) (entries_of i heard)
  whole_heard heard come key whole port r carries honest fed of =
      let k = by_places r key (key_places_at i port) of in
      let chosen : is_carrying i (port_of_feed i fed.feed) ≡ true = ap (is_carrying i) fed.at ∙ carries in
      let same : is_same_row (cells k.0 r) key ≡ true = ap (λ z. is_same_row z key) k.2 ∙ is_same_row-itself key in
      subst (λ p. Has (p, r) (entries_of i heard)) fed.at
      (heard_whole w given x i heard key fed.feed k.0 come whole
      (Has-filter (λ feed. is_carrying i (port_of_feed i feed)) fed.feed (below (length i.feeds)) (in_below (length i.feeds) fed.feed fed.within) chosen)
      (ap (key_places_at i) fed.at ∙ k.1) (honest fed.feed k.0 fed.within fed.at k.1) r fed.sent same)
