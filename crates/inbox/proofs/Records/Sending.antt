-- What instances hear, what logs hold and what stands in timesteps was sent by streams.
use Rattle.std.proofs.Common.{sym, subst, ℕ, ◌<◌, ◌≤◌, length, inl, inr, arith, ◌∙◌}
use Rattle.blz_value.specs.Members.{Has}
use Rattle.blz_value.specs.Record.{Row}
use Rattle.blz_value.proofs.Membership.{Has-get_or, Has-from_flat_map}
use Rattle.bloom_forms.specs.Step.{Sets, set_at}
use Rattle.topo_forms.specs.Data.{Data}
use Rattle.topo_forms.specs.Feeds.{Feed, no_feed}
use Rattle.topo_forms.specs.Messages.{row}
use Rattle.topo_forms.specs.Valid.{IsValid}
use Rattle.topo_forms.specs.View.{View, replicas_of}
use Rattle.messages.specs.Messages.{Batch, Entry, all_pairs}
use Rattle.inbox.specs.Growth.{feed_numbered, ComesFrom, EntryComesFrom, WasSentBefore}
use Rattle.inbox.specs.Instances.{Instance, entries_of}
use Rattle.inbox.specs.Lives.{Life, all_lives, life_timesteps}
use Rattle.inbox.specs.Wiring.{instance_for, wiring_of}
use Rattle.inbox.specs.Executions.{Execution, emitted_list}
use Rattle.inbox.proofs.WiringLemmas.{IsFeedInto, instance-wired, instance-feeds, port_of-feed}
use Rattle.inbox.proofs.TimestepLemmas.OfLives.{timestep_entry}
use Rattle.inbox.proofs.TimestepLemmas.Entries.{heard_entry}
use Rattle.inbox.specs.Sent.{IsSentTo}

module _ (v : View) (d : Data) (x : Execution) where
  -- what stands in the emitted list of a feed was sent to the feed's port
  pub feed_sends : (c j : ℕ) (feed : Feed) (r : Row) → Has feed (instance_for v c j).feeds → Has (row r) (emitted_list (wiring_of v) d x feed.stream feed.sender) → IsSentTo v d x c feed.port r
  feed_sends c j feed r stands sent =
      let into : IsFeedInto v c feed = instance-feeds v c j feed stands in
      record { stream = feed.stream; sender = feed.sender; within = into.stream; goes = into.goes; sends = into.sender; sent = sent }

  module _ (valid : IsValid v) (y : Execution) (before : WasSentBefore (wiring_of v) d x y) where
    pub heard_sent : (c j : ℕ) (life : Life) (entry : Entry) → c < length v.components → j < replicas_of v c
        → Has life (all_lives (y.lives c j)) → Has entry (entries_of (instance_for v c j) (all_pairs life.heard)) → IsSentTo v d x c entry.0 entry.1
    heard_sent c j life entry within there lived h =
        let i = instance_for v c j in
        let e = heard_entry i (all_pairs life.heard) entry h in
        let b = Has-from_flat_map (λ (batch : Batch). batch) (e.feed, row entry.1) life.heard e.there in
        let came = subst (λ (z : Instance). ComesFrom (wiring_of v) d x z (e.feed, row entry.1)) (instance-wired v c j within there) (before.heard c j life b.0 (e.feed, row entry.1) lived b.1 b.2) in
        let feed = feed_numbered i e.feed in
        let sent : IsSentTo v d x c feed.port entry.1 = feed_sends c j feed entry.1 (Has-get_or i.feeds e.feed no_feed came.of_feed) came.sent in
        subst (λ n. IsSentTo v d x c n entry.1) (sym (port_of-feed i e.feed came.of_feed) ∙ e.port) sent

    pub logged_sent : (c : ℕ) (entry : Entry) → c < length v.components → Has entry (y.logs c) → IsSentTo v d x c entry.0 entry.1
    logged_sent c entry within h =
        let some : 0 < replicas_of v c = (let one : 1 ≤ replicas_of v c = (valid.components c within).some_replica in omega (arith, one)) in
        let came = subst (λ (i : Instance). EntryComesFrom (wiring_of v) d x i entry) (instance-wired v c 0 within some) (before.logged c entry h) in
        subst (λ n. IsSentTo v d x c n entry.1) came.port (feed_sends c 0 came.feed entry.1 came.of_feed came.sent)

    pub timestep_sent : (c j : ℕ) (life : Life) (now : Sets) (port : ℕ) (r : Row) → c < length v.components → j < replicas_of v c
        → Has life (all_lives (y.lives c j)) → Has now (life_timesteps (instance_for v c j) (y.logs c) life) → Has r (set_at now port) → IsSentTo v d x c port r
    timestep_sent c j life now port r within there lived h stands = elim (timestep_entry (instance_for v c j) (y.logs c) life now port r h stands) [
      | inl heard ↦ heard_sent c j life (port, r) within there lived heard
      | inr logged ↦ logged_sent c (port, r) within logged
    ]
