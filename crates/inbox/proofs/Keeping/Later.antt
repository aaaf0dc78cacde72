-- What an inbox stands for by a pool it stands for by each later one.
use Rattle.std.proofs.Common.{◌≡◌, refl, ap, sym, subst, ◌∙◌, ℕ, zero, suc, ◌<◌, ◌≤◌, Bool, true, false, cond, List, [], ◌∷◌, ◌++◌, length, length-append, filter, get_or, arith, inl, inr}
use Rattle.std.specs.List.{list_any}
use Rattle.std.specs.Option.{is_some}
use Rattle.std.proofs.Math.ListN.{get_or-append}
use Rattle.std.proofs.lemmas.Bool.{cases_lt}
use Rattle.blz_pool.specs.Pool.{number_of}
use Rattle.blz_value.specs.Members.{Has}
use Rattle.blz_value.specs.Record.{Row}
use Rattle.blz_value.proofs.Membership.{Has-get_or}
use Rattle.blz_value.proofs.Booleans.{same_truth}
use Rattle.topo_forms.specs.Messages.{is_same_row}
use Rattle.messages.specs.Messages.{Pair, Entry, all_pairs}
use Rattle.messages.specs.Whole.{feeds_view}
use Rattle.messages.specs.Feeds.{FeedView, FeedsView}
use Rattle.inbox.specs.Instances.{Instance, is_of_key}
use Rattle.inbox.specs.Timesteps.{from_feed}
use Rattle.blz_pool.specs.Entries.{EntryId, row_with_id, entry_with_id, entries_with_ids}
use Rattle.messages.specs.Log.{AreGiven}
use Rattle.inbox.specs.Code.Heard.{keyed_rows, FeedHeard, FeedsHeard, WaitingHeard, is_place_of}
use Rattle.inbox.specs.Inbox.{Keeps}
use Rattle.inbox.specs.Pools.{IsLater, PlacedIsLater, LaterInSteps, StandsLater, KeepsLater, GivenLater, ReadsLater}
use Rattle.inbox.specs.declared.waiting.Waiting.{Waiting}
use Rattle.inbox.specs.declared.inbox.Inbox.{Inbox}
use Rattle.messages.proofs.LogLemmas.{one_id}
use Rattle.messages.proofs.MessagesLemmas.{is_same_row-is, is_same_row-itself, same-from_any}

-- the id of a record that the pool has
id_in_pool : (records : List Row) (r : Row) → Has r records → (id : ℕ) × (id < length records) × (get_or records id [] ≡ r)
id_in_pool [] r h = absurd h
id_in_pool (x ∷ records) r (inl is) = (zero, omega arith, is)
id_in_pool (x ∷ records) r (inr h) =
    let rest = id_in_pool records r h in
    let below : rest.0 < length records = rest.1 in
    (suc rest.0, omega (arith, below), rest.2)

-- ---- from one pool to a later one

module _ (records later : List Row) (g : IsLater records later) where
  given-later : (entries : List EntryId) → AreGiven records entries → AreGiven later entries
  given-later entries given e h = (let below = given e h in let count = g.count in omega (arith, below, count))

  one-later : (e : EntryId) → e.1 < length records → entry_with_id later e ≡ entry_with_id records e
  one-later e within = ap (λ (r : Row). let x : Entry = (e.0, r) in x) (g.same e.1 within)

  entries-later : (entries : List EntryId) → AreGiven records entries → entries_with_ids later entries ≡ entries_with_ids records entries
  entries-later [] given = refl
  entries-later (e ∷ entries) given =
      ap (λ (x : Entry). x ∷ entries_with_ids later entries) (one-later e (given e (inl refl)))
      ∙ ap (λ l. entry_with_id records e ∷ l) (entries-later entries (λ x h. given x (inr h)))

  -- an id that came later isn't that of a record that was heard
  not_heard : (i : Instance) (feed : ℕ) (sent : List Pair) (f : FeedView) → FeedHeard i records feed sent f → (id : ℕ) → id < length later → length records ≤ id → list_any (is_same_row (row_with_id later id)) (keyed_rows i sent) ≡ true → ⊥
  not_heard i feed sent f s id within past found =
      let r : Row = row_with_id later id in
      let own = id_in_pool records r (s.rows r (same-from_any is_same_row is_same_row-is is_same_row-itself r (keyed_rows i sent) found)) in
      let below : own.0 < length records = own.1 in
      let count : length records ≤ length later = g.count in
      let one : own.0 ≡ id = one_id later g.pool id within own.0 (omega (arith, below, count)) (g.same own.0 below ∙ own.2) in
      absurd (omega (arith, below, past, one))

  known-later : (i : Instance) (feed : ℕ) (sent : List Pair) (f : FeedView) → FeedHeard i records feed sent f → (id : ℕ) → id < length later → f.known id ≡ list_any (is_same_row (row_with_id later id)) (keyed_rows i sent)
  known-later i feed sent f s id within = elim (cases_lt id (length records)) [
    | inl below ↦ s.known id below ∙ ap (λ (r : Row). list_any (is_same_row r) (keyed_rows i sent)) (sym (g.same id below))
    | inr past ↦
        same_truth (f.known id) (list_any (is_same_row (row_with_id later id)) (keyed_rows i sent))
        (λ known. absurd (let below : id < length records = s.given id known in omega (arith, below, past)))
        (λ found. absurd (not_heard i feed sent f s id within past found))
  ]

  rows-later : (r : Row) → Has r records → Has r later
  rows-later r h =
      let own = id_in_pool records r h in
      let below : own.0 < length records = own.1 in
      let count : length records ≤ length later = g.count in
      subst (λ x. Has x later) (g.same own.0 below ∙ own.2) (Has-get_or later own.0 [] (omega (arith, below, count)))

  feed-later : (i : Instance) (feed : ℕ) (sent : List Pair) (f : FeedView) → FeedHeard i records feed sent f → FeedHeard i later feed sent f
  feed-later i feed sent f s = record {
    port = s.port;
    carries = s.carries;
    given = λ id known. (let below = s.given id known in let count = g.count in omega (arith, below, count));
    rows = λ r h. rows-later r (s.rows r h);
    known = known-later i feed sent f s;
    have = s.have;
    need = s.need;
  }

  feeds-later : (i : Instance) (heard : List Pair) (f : FeedsView) → FeedsHeard i records heard f → FeedsHeard i later heard f
  feeds-later i heard f s = record {
    ports = s.ports;
    count = s.count;
    some = s.some;
    within = s.within;
    each = λ feed d below. feed-later i feed (from_feed feed heard) (get_or f.feeds feed d) (s.each feed d below);
  }

  waiting-later : (i : Instance) (waits : Entry → Bool) (heard : List Pair) (w : Waiting) → WaitingHeard i records waits heard w → WaitingHeard i later waits heard w
  waiting-later i waits heard w s = record {
    given = given-later w.log s.given;
    log = entries-later w.log s.given ∙ s.log;
    within = s.within;
    placed = λ key place h. at key place (s.within key place h) ∙ s.placed key place h;
    all = λ key place below e. s.all key place below (sym (at key place below) ∙ e);
    held = s.held ∙ ap (λ l. length (filter waits l)) (sym (entries-later w.log s.given));
  }
    where
      at : (key : Row) (place : ℕ) → place < length w.log → is_place_of i later w.log key place ≡ is_place_of i records w.log key place
      at key place below =
          let d : EntryId = (0, 0) in
          ap (is_of_key i key) (one-later (get_or w.log place d) (s.given (get_or w.log place d) (Has-get_or w.log place d below)))

  keeps-later : (i : Instance) (waits : Entry → Bool) (heard : List Pair) (x : Inbox) → Keeps i records waits heard x → Keeps i later waits heard x
  keeps-later i waits heard x s = record {
    mode = s.mode;
    hears = s.hears;
    come = s.come;
    feeds = feeds-later i heard (feeds_view x.feeds) s.feeds;
    waiting = λ on. waiting-later i waits heard x.waiting (s.waiting on);
    idle = s.idle;
  }

-- ---- the law

pub placed_is_later : PlacedIsLater
placed_is_later records row pool = record { pool = pool; count = count (is_some (number_of records row)); same = λ id below. same id below (is_some (number_of records row)) }
  where
    count : (b : Bool) → length records ≤ length (cond b records (records ++ row ∷ []))
    count true = omega arith
    count false = (let more = length-append records (row ∷ []) in omega (arith, more))

    same : (id : ℕ) → id < length records → (b : Bool) → row_with_id (cond b records (records ++ row ∷ [])) id ≡ row_with_id records id
    same id below true = refl
    same id below false = get_or-append records (row ∷ []) [] id below

pub later_in_steps : LaterInSteps
later_in_steps records later last first second = record {
  pool = second.pool;
  count = (let a = first.count in let b = second.count in omega (arith, a, b));
  same = λ id below. second.same id (let count = first.count in omega (arith, below, count)) ∙ first.same id below;
}

pub stands_later : StandsLater
stands_later i records later batches x g s = keeps-later records later g i _ (all_pairs batches) x s

pub keeps_later : KeepsLater
keeps_later records later x g from = given-later records later g x.waiting.log from

pub given_later : GivenLater
given_later records later entries g given = given-later records later g entries given

pub reads_later : ReadsLater
reads_later records later entries g given = entries-later records later g entries given
