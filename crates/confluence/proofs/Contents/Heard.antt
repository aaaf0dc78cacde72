-- What an instance hears is among the contents of its feeds, and in a complete execution it is all of them.
use Rattle.std.proofs.Common.{◌≡◌, ◌<◌, ◌==◌, ℕ, suc, true, false, List, [], ◌∷◌, length, filter, get_or, refl, ap, ◌∙◌, sym, subst, inl, inr, arith}
use Rattle.std.specs.Prelude.{Ok}
use Rattle.std.specs.List.{flat_map}
use Rattle.std.proofs.lemmas.Bool.{cases_lt, eqb-true, eq-eqb}
use Rattle.std.proofs.lemmas.List.{get_or_past}
use Rattle.std.proofs.lemmas.List.FromFn.{get_or-map-range_with_len, length-map-range_with_len}
use Rattle.blz_value.specs.Members.{Has}
use Rattle.blz_value.specs.Record.{Row}
use Rattle.blz_value.proofs.Membership.{Has-get_or, Has-flat_map, Has-from_flat_map, Has-filter, Has-from_filter}
use Rattle.blz_value.proofs.SetLaws.{Has-set_of, Has-from_set_of}
use Rattle.bloom_forms.specs.Step.{set_at}
use Rattle.topo_forms.specs.Data.{Data}
use Rattle.topo_forms.specs.Feeds.{Feed, no_feed}
use Rattle.topo_forms.specs.Messages.{Message, row, rows_in}
use Rattle.topo_forms.specs.View.{is_order_mode}
use Rattle.messages.specs.Messages.{Batch, Entry, all_pairs}
use Rattle.inbox.specs.Instances.{Instance, port_of_feed, entries_of}
use Rattle.inbox.specs.Timesteps.{Stands, timesteps}
use Rattle.inbox.specs.Lives.{Life, all_lives}
use Rattle.inbox.specs.Wiring.{Wiring, instance_at, is_there}
use Rattle.inbox.specs.Executions.{Execution, emitted_list, contents, execution_of}
use Rattle.inbox.specs.Completeness.{IsComplete}
use Rattle.inbox.specs.Growth.{feed_numbered, ComesFrom}
use Rattle.inbox.specs.Events.{Step}
use Rattle.inbox.proofs.Executions.Completing.{all_delivered}
use Rattle.inbox.proofs.TimestepLemmas.Held.{nothing_held}
use Rattle.inbox.proofs.Executions.Sent.{history_holds}
use Rattle.inbox.proofs.WiringLemmas.{port_of-feed}
use Rattle.inbox.proofs.TimestepLemmas.Entries.{Has-rows_in, Has-from_rows_in, heard_entry, entry_heard}
use Rattle.confluence.specs.Complete.{contents_at, contents_into}

-- a member stands at a place
pub at_place : {X : Type 0} (q : X) (xs : List X) (d : X) → Has q xs → (n : ℕ) × (n < length xs) × (get_or xs n d ≡ q)
at_place q [] d h = absurd h
at_place q (x ∷ xs) d (inl e) = (0, omega arith, e)
at_place q (x ∷ xs) d (inr h) = let m = at_place q xs d h in (suc m.0, (let lt = m.1 in omega (arith, lt)), m.2)

-- ---- what arrives at an instance in all

module _ (w : Wiring) (d : Data) (x : Execution) (c j : ℕ) where
  abbrev i : Instance
  i = instance_at w c j

  abbrev sent_by : Feed → List Row
  sent_by feed = contents w d x feed.stream feed.sender

  into_at : (port : ℕ) → port < length i.ports → set_at (contents_into w d x c j) port ≡ contents_at w d x i port
  into_at port lt = get_or-map-range_with_len (contents_at w d x i) 0 (length i.ports) port port [] lt (omega arith)

  pub in_into : (feed : Feed) (r : Row) → Has feed i.feeds → feed.port < length i.ports → Has r (sent_by feed) → Has r (set_at (contents_into w d x c j) feed.port)
  in_into feed r of_feed lt sent =
      let kept = filter (λ (f : Feed). f.port == feed.port) i.feeds in
      subst (λ (l : List Row). Has r l) (sym (into_at feed.port lt))
      (Has-set_of r (flat_map sent_by kept) (Has-flat_map sent_by feed r kept (Has-filter (λ (f : Feed). f.port == feed.port) feed i.feeds of_feed (eq-eqb feed.port feed.port refl)) sent))

  pub record IsSentBy (port : ℕ) (r : Row) : Type 0 where
    pub feed : Feed
    pub of_feed : Has feed i.feeds
    pub port_is : feed.port ≡ port
    pub sent : Has r (sent_by feed)

  pub from_into : (port : ℕ) (r : Row) → Has r (set_at (contents_into w d x c j) port) → (port < length i.ports) × IsSentBy port r
  from_into port r h = elim (cases_lt port (length i.ports)) [
    | inl lt ↦
        let kept = filter (λ (f : Feed). f.port == port) i.feeds in
        let m = Has-from_flat_map sent_by r kept (Has-from_set_of r (flat_map sent_by kept) (subst (λ (l : List Row). Has r l) (into_at port lt) h)) in
        let k = Has-from_filter (λ (f : Feed). f.port == port) m.0 i.feeds m.1 in
        (lt, record { feed = m.0; of_feed = k.0; port_is = eqb-true m.0.port port k.1; sent = m.2 })
    | inr past ↦ absurd (subst (λ (l : List Row). Has r l) (get_or_past (contents_into w d x c j) port [] (omega (arith, past, length-map-range_with_len (contents_at w d x i) 0 (length i.ports)))) h)
  ]

  -- a record that was heard from a feed is among its contents
  pub comes_into : (pair_feed : ℕ) (r : Row) → ComesFrom w d x i (pair_feed, row r) → port_of_feed i pair_feed < length i.ports → Has r (set_at (contents_into w d x c j) (port_of_feed i pair_feed))
  comes_into n r from lt =
      let feed : Feed = feed_numbered i n in
      let port : port_of_feed i n ≡ feed.port = port_of-feed i n from.of_feed in
      let sent : Has r (sent_by feed) = Has-set_of r (rows_in (emitted_list w d x feed.stream feed.sender)) (Has-rows_in r (emitted_list w d x feed.stream feed.sender) from.sent) in
      subst (λ (p : ℕ). Has r (set_at (contents_into w d x c j) p)) (sym port) (in_into feed r (Has-get_or i.feeds n no_feed from.of_feed) (subst (λ (p : ℕ). p < length i.ports) port lt) sent)

  -- all that an instance heard in a life
  pub heard_into : (steps : List Step) → execution_of w d steps ≡ Ok x → (life : Life) → Has life (all_lives (x.lives c j)) → (entry : Entry) → entry.0 < length i.ports
      → Has entry (entries_of i (all_pairs life.heard)) → Has entry.1 (set_at (contents_into w d x c j) entry.0)
  heard_into steps legal life of_life entry lt h =
      let e = heard_entry i (all_pairs life.heard) entry h in
      let b = Has-from_flat_map (λ (batch : Batch). batch) (e.feed, row entry.1) life.heard e.there in
      let from = (history_holds w d steps x legal).hears c j life b.0 (e.feed, row entry.1) of_life b.1 b.2 in
      subst (λ (p : ℕ). Has entry.1 (set_at (contents_into w d x c j) p)) e.port (comes_into e.feed entry.1 from (subst (λ (p : ℕ). p < length i.ports) (sym e.port) lt))

  -- ---- in a complete execution the last life heard everything

  module _ (complete : IsComplete w d x) (there : is_there w c j ≡ true) (not_order : is_order_mode i.mode ≡ false) where
    pub last_heard : (port : ℕ) (r : Row) → Has r (set_at (contents_into w d x c j) port) → Stands (timesteps i (x.lives c j).last.heard) (port, r)
    last_heard port r h =
        let f = (from_into port r h).1 in
        let at = at_place f.feed i.feeds no_feed f.of_feed in
        let list : List Message = emitted_list w d x f.feed.stream f.feed.sender in
        let sent : Has (row r) list = Has-from_rows_in r list (Has-from_set_of r (rows_in list) f.sent) in
        let sent_at : Has (row r) (emitted_list w d x (feed_numbered i at.0).stream (feed_numbered i at.0).sender) = subst (λ (g : Feed). Has (row r) (emitted_list w d x g.stream g.sender)) (sym at.2) sent in
        let heard = all_delivered w d x complete c j at.0 (row r) there not_order at.1 sent_at in
        let entry = entry_heard i (all_pairs (x.lives c j).last.heard) at.0 r heard in
        let port_is : port_of_feed i at.0 ≡ port = port_of-feed i at.0 at.1 ∙ ap (λ (g : Feed). g.port) at.2 ∙ f.port_is in
        nothing_held i (x.lives c j).last.heard (port, r) (complete.held c j there) (subst (λ (p : ℕ). Has (p, r) (entries_of i (all_pairs (x.lives c j).last.heard))) port_is entry)
