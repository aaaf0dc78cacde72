-- An inbox that hears one message more stands for what was heard.
use Rattle.std.proofs.Common.{◌≡◌, refl, ap, sym, subst, ◌∙◌, ℕ, ◌<◌, ◌&&◌, Bool, true, false, Option, Some, None, List, [], ◌∷◌, ◌++◌, length, append-nil, inl, inr}
use Rattle.std.specs.Option.{is_some}
use Rattle.std.proofs.Math.ListN.{length-set}
use Rattle.std.proofs.lemmas.Bool.{cases_Bool}
use Rattle.blz_pool.specs.Pool.{IsPool}
use Rattle.blz_value.specs.Members.{Has}
use Rattle.blz_value.specs.Record.{Row}
use Rattle.blz_value.proofs.Membership.{Has-append_cases}
use Rattle.topo_forms.specs.Messages.{row, seal}
use Rattle.messages.specs.Messages.{Pair, Entry}
use Rattle.inbox.specs.Instances.{Instance, port_of_feed, entries_of, key_of_entry}
use Rattle.blz_pool.specs.Entries.{EntryId, row_with_id}
use Rattle.messages.specs.Log.{is_same_entry_id}
use Rattle.messages.specs.Whole.{feeds_view}
use Rattle.messages.specs.Feeds.{FeedView, FeedsView, feed_count, port_in, HearsSeal, IsOneChanged}
use Rattle.inbox.specs.Code.Batches.{HearsIf, HearsRecord, IsHeardAs}
use Rattle.messages.specs.Whole.{key_at}
use Rattle.messages.specs.declared.feeds.Feeds.{Feeds}
use Rattle.inbox.specs.declared.inbox.Touched.{Touched}
use Rattle.inbox.specs.Code.Heard.{FeedsHeard, WaitingHeard, IsIdle}
use Rattle.inbox.specs.Code.Waiting.{KeepsEntry}
use Rattle.inbox.specs.Inbox.{Keeps, IsFrom}
use Rattle.inbox.specs.declared.waiting.Waiting.{Waiting}
use Rattle.inbox.specs.declared.inbox.Inbox.{Inbox}
use Rattle.messages.proofs.LogLemmas.{one_id, is_same_entry_id-is, is_same_entry_id-itself}
use Rattle.messages.proofs.MessagesLemmas.{Has-from_with_new}
use Rattle.inbox.proofs.TimestepLemmas.Whole.{entries_of-append}
use Rattle.inbox.proofs.Keeping.Feeds.{feeds-row, feeds-seal, feeds-no_row, port_in-is}
use Rattle.inbox.proofs.Keeping.Records.{records-row, records-seal}

-- ---- ids are the pool's

pub from-record : (records : List Row) (old new : Inbox) (feed id : ℕ) (key : Option Row) (waits : Bool) → HearsRecord old new feed key id waits → id < length records → IsFrom records old → IsFrom records new
from-record records old new feed id key waits h within from x there =
    elim (cases_Bool old.sealing) [
      | inl on ↦
          elim (Has-from_with_new is_same_entry_id is_same_entry_id-is is_same_entry_id-itself x (port_in (feeds_view old.feeds) feed, id) old.waiting.log (subst (λ l. Has x l) (h.kept on).log there)) [
            | inl before ↦ from x before
            | inr is ↦ subst (λ (y : EntryId). y.1 < length records) is within
          ]
      | inr off ↦ from x (subst (λ (w : Waiting). Has x w.log) (h.idle off) there)
    ]

-- ---- what comes comes at ports

come-row : (i : Instance) (heard : List Pair) (feed : ℕ) (r : Row) → port_of_feed i feed < length i.ports → ((entry : Entry) → Has entry (entries_of i heard) → entry.0 < length i.ports)
    → (entry : Entry) → Has entry (entries_of i (heard ++ (feed, row r) ∷ [])) → entry.0 < length i.ports
come-row i heard feed r within come entry h =
    elim (Has-append_cases entry (entries_of i heard) ((port_of_feed i feed, r) ∷ []) (subst (λ l. Has entry l) (entries_of-append i heard ((feed, row r) ∷ [])) h)) [
      | inl before ↦ come entry before
      | inr now ↦ elim now [ inl is ↦ subst (λ (e : Entry). e.0 < length i.ports) is within | inr none ↦ absurd none ]
    ]

come-seal : (i : Instance) (heard : List Pair) (feed : ℕ) (k : Row) (n : ℕ) → ((entry : Entry) → Has entry (entries_of i heard) → entry.0 < length i.ports)
    → (entry : Entry) → Has entry (entries_of i (heard ++ (feed, seal k n) ∷ [])) → entry.0 < length i.ports
come-seal i heard feed k n come entry h = come entry (subst (λ l. Has entry l) (entries_of-append i heard ((feed, seal k n) ∷ []) ∙ append-nil (entries_of i heard)) h)

-- ---- one message more

module _ (i : Instance) (records : List Row) (waits : Entry → Bool) (heard : List Pair) (old new : Inbox) (s : Keeps i records waits heard old) (feed : ℕ) (inside : feed < feed_count (feeds_view old.feeds)) where
  counted : (f : FeedsView) (id : ℕ) (key : Option Row) → HearsIf (feeds_view old.feeds) f feed key id → key ≡ key_of_entry i (port_of_feed i feed, row_with_id records id) → id < length records → IsPool records
      → FeedsHeard i records (heard ++ (feed, row (row_with_id records id)) ∷ []) f
  counted f id None same of within pool = subst (λ g. FeedsHeard i records (heard ++ (feed, row (row_with_id records id)) ∷ []) g) (sym same) (feeds-no_row i records heard (feeds_view old.feeds) feed (row_with_id records id) s.feeds (sym of))
  counted f id (Some key) hears of within pool = feeds-row i records heard (feeds_view old.feeds) f feed key id s.feeds hears inside within (one_id records pool id within) (sym of)

  pub keeps-row : (keys : List Row) (t : Touched) (id : ℕ) → HearsRecord old new feed (key_at keys t.number) id t.waits → id < length records → IsPool records
      → IsHeardAs i keys waits (feed, row (row_with_id records id)) t → Keeps i records waits (heard ++ (feed, row (row_with_id records id)) ∷ []) new
  keeps-row keys t id h within pool as_said =
      let r : Row = row_with_id records id in
      let port : port_in (feeds_view old.feeds) feed ≡ port_of_feed i feed = port_in-is i records heard (feeds_view old.feeds) feed s.feeds inside in
      let key : key_at keys t.number ≡ key_of_entry i (port_of_feed i feed, r) = as_said.key_is in
      record {
        mode = h.mode ∙ s.mode;
        hears = s.hears;
        come = come-row i heard feed r (s.feeds.within feed (subst (λ n. feed < n) s.feeds.count inside)) s.come;
        feeds = counted (feeds_view new.feeds) id (key_at keys t.number) h.feeds key within pool;
        waiting = λ on.
            let was : old.sealing ≡ true = sym h.mode ∙ on in
            records-row i records waits heard feed id old.waiting new.waiting (key_at keys t.number) t.waits
            (s.waiting was)
            (subst (λ (p : ℕ). KeepsEntry old.waiting new.waiting (p, id) (key_at keys t.number) t.waits) port (h.kept was))
            within (one_id records pool id within) key
            (ap (λ (k : Option Row). is_some k && t.waits) key ∙ sym (as_said.waiting (port_of_feed i feed, r) refl));
        idle = λ off. subst (λ w. IsIdle w) (sym (h.idle (sym h.mode ∙ off))) (s.idle (sym h.mode ∙ off));
      }

  pub keeps-seal : (key : Row) (count : ℕ) → new.sealing ≡ old.sealing → HearsSeal (feeds_view old.feeds) (feeds_view new.feeds) feed key count → new.waiting ≡ old.waiting → Keeps i records waits (heard ++ (feed, seal key count) ∷ []) new
  keeps-seal key count mode hears same = record {
    mode = mode ∙ s.mode;
    hears = s.hears;
    come = come-seal i heard feed key count s.come;
    feeds = feeds-seal i records heard (feeds_view old.feeds) (feeds_view new.feeds) feed key count s.feeds hears inside;
    waiting = λ on. subst (λ w. WaitingHeard i records waits (heard ++ (feed, seal key count) ∷ []) w) (sym same) (records-seal i records waits heard feed key count old.waiting (s.waiting (sym mode ∙ on)));
    idle = λ off. subst (λ w. IsIdle w) (sym same) (s.idle (sym mode ∙ off));
  }

-- ---- the number of feeds

pub count-one : (old new : FeedsView) (feed : ℕ) (was now : FeedView) → IsOneChanged old new feed was now → feed_count new ≡ feed_count old
count-one old new feed was now changed = ap (length {A = FeedView}) changed.feeds ∙ length-set old.feeds feed now

pub count-if : (old new : FeedsView) (feed id : ℕ) (key : Option Row) → HearsIf old new feed key id → feed_count new ≡ feed_count old
count-if old new feed id None same = ap feed_count same
count-if old new feed id (Some key) hears = count-one old new feed hears.was hears.now hears.changed

-- ---- a record is heard by being kept and counted

pub hears_record : (old mid new : Inbox) (feed id port : ℕ) (key : Option Row) (waits : Bool) → port ≡ port_in (feeds_view old.feeds) feed
    → mid.sealing ≡ old.sealing → mid.feeds ≡ old.feeds → (old.sealing ≡ true → KeepsEntry old.waiting mid.waiting (port, id) key waits) → (old.sealing ≡ false → mid.waiting ≡ old.waiting)
    → new.sealing ≡ mid.sealing → HearsIf (feeds_view mid.feeds) (feeds_view new.feeds) feed key id → new.waiting ≡ mid.waiting → HearsRecord old new feed key id waits
hears_record old mid new feed id port key waits at mode feeds kept idle mode_then hears waiting = record {
  mode = mode_then ∙ mode;
  feeds = subst (λ (f : Feeds). HearsIf (feeds_view f) (feeds_view new.feeds) feed key id) feeds hears;
  kept = λ on. subst (λ w. KeepsEntry old.waiting w (port_in (feeds_view old.feeds) feed, id) key waits) (sym waiting) (subst (λ (p : ℕ). KeepsEntry old.waiting mid.waiting (p, id) key waits) at (kept on));
  idle = λ off. waiting ∙ idle off;
}
