-- A feed that hears one message more stands for what was heard from it, and so do all feeds.
use Rattle.std.proofs.Common.{◌≡◌, refl, ap, sym, subst, ◌∙◌, ℕ, ◌+◌, ◌<◌, ◌≤◌, ◌==◌, ◌&&◌, ◌||◌, nat_le, Bool, true, false, not, cond, Option, Some, None, List, [], ◌∷◌, ◌++◌, length, map, filter, append-nil, arith, inl, inr, get_or, set}
use Rattle.std.specs.List.{list_any, slice_get}
use Rattle.std.specs.Option.{option_map, option_map_or, option_and_then, is_some}
use Rattle.std.proofs.lemmas.Bool.{cases_Bool, eq-eqb, eqb-true}
use Rattle.std.proofs.lemmas.Bool.Decides.{eqb_tells}
use Rattle.std.proofs.lemmas.List.{map-append, get_or-set_same, get_or-set_other}
use Rattle.std.proofs.lemmas.List.Elements.{filter-append}
use Rattle.std.proofs.lemmas.List.Folds.{list_any-append}
use Rattle.std.proofs.lemmas.Option.{slice_get_cases}
use Rattle.std.proofs.Math.ListN.{length-set}
use Rattle.blz_value.specs.Members.{Has}
use Rattle.blz_value.specs.Operators.{cells}
use Rattle.blz_value.specs.Record.{Row, record_cmp}
use Rattle.blz_value.specs.RecordOrder.{record_cmp_exact}
use Rattle.blz_value.specs.Sets.{set_of}
use Rattle.blz_value.proofs.Membership.{Has-append_cases, Has-filter, Has-from_filter, Has-get_or, Has-map, Has-from_map}
use Rattle.blz_value.proofs.RowSets.{set_of-push, set_of-push_present, length-insert_key-new}
use Rattle.blz_value.proofs.SetLaws.{Has-from_set_of}
use Rattle.blz_value.proofs.Booleans.{same_truth, or_false}
use Rattle.topo_forms.specs.Messages.{Message, row, seal, is_same_row}
use Rattle.messages.specs.Messages.{Pair, Entry}
use Rattle.inbox.specs.Instances.{PortKey, Instance, port_of_feed, is_carrying, entries_of, key_of_entry, is_of_key}
use Rattle.inbox.specs.Timesteps.{is_seal_within, from_feed}
use Rattle.blz_pool.specs.Entries.{row_with_id}
use Rattle.messages.specs.PartitionCounts.{is_met}
use Rattle.messages.specs.Feeds.{FeedView, FeedsView, feed_count, port_in, key_in, carries_in, FeedHearsRow, FeedHearsSeal, HearsRow, HearsSeal, IsOneChanged}
use Rattle.inbox.specs.Code.Heard.{keyed_rows, count_sent, FeedHeard, FeedsHeard}
use Rattle.messages.proofs.LogLemmas.{IsOneId, same_row-same_id}
use Rattle.messages.proofs.MessagesLemmas.{is_same_row-is, is_same_row-itself, any-from_same, same-from_any}
use Rattle.inbox.proofs.TimestepLemmas.Entries.{heard_entry}
use Rattle.inbox.proofs.TimestepLemmas.UnderSeal.{of_key-is, is-of_key}
use Rattle.inbox.proofs.TimestepLemmas.Whole.{entries_of-append}

-- ---- truth values

or_turned : (a b c : Bool) → a ≡ c → (a || b) ≡ (b || (c || false))
or_turned true true c e = refl
or_turned true false c e = e ∙ sym (or_false c)
or_turned false true c e = refl
or_turned false false c e = e ∙ sym (or_false c)

pub same_row-turned : (a b : Row) → is_same_row a b ≡ is_same_row b a
same_row-turned a b =
    same_truth (is_same_row a b) (is_same_row b a)
    (λ e. subst (λ x. is_same_row x a ≡ true) (is_same_row-is a b e) (is_same_row-itself a))
    (λ e. subst (λ x. is_same_row x b ≡ true) (is_same_row-is b a e) (is_same_row-itself b))

-- ---- the records of one more pair

module _ (i : Instance) (feed : ℕ) (sent : List Pair) where
  chosen_none : (t : Entry → Bool) (r : Row) (b : Bool) → t (port_of_feed i feed, r) ≡ b → map (λ entry. entry.1) (filter t ((port_of_feed i feed, r) ∷ [])) ≡ cond b (r ∷ []) []
  chosen_none t r b e = ap (λ c. map (λ (entry : Entry). entry.1) (cond c ((port_of_feed i feed, r) ∷ []) [])) e ∙ elim b as (λ c. map (λ (entry : Entry). entry.1) (cond c ((port_of_feed i feed, r) ∷ []) []) ≡ cond c (r ∷ []) []) [ true ↦ refl | false ↦ refl ]

  -- those that a test chooses
  chosen-row : (t : Entry → Bool) (r : Row) (b : Bool) → t (port_of_feed i feed, r) ≡ b → map (λ entry. entry.1) (filter t (entries_of i (sent ++ (feed, row r) ∷ []))) ≡ map (λ entry. entry.1) (filter t (entries_of i sent)) ++ cond b (r ∷ []) []
  chosen-row t r b e =
      ap (λ es. map (λ (entry : Entry). entry.1) (filter t es)) (entries_of-append i sent ((feed, row r) ∷ []))
      ∙ ap (map (λ (entry : Entry). entry.1)) (filter-append t (entries_of i sent) ((port_of_feed i feed, r) ∷ []))
      ∙ map-append (λ (entry : Entry). entry.1) (filter t (entries_of i sent)) (filter t ((port_of_feed i feed, r) ∷ []))
      ∙ ap (λ l. map (λ (entry : Entry). entry.1) (filter t (entries_of i sent)) ++ l) (chosen_none t r b e)

  entries-seal : (k : Row) (n : ℕ) → entries_of i (sent ++ (feed, seal k n) ∷ []) ≡ entries_of i sent
  entries-seal k n = entries_of-append i sent ((feed, seal k n) ∷ []) ∙ append-nil (entries_of i sent)

  seals-row : (key r : Row) (n : ℕ) → list_any (λ (pair : Pair). is_seal_within key n pair.1) (sent ++ (feed, row r) ∷ []) ≡ list_any (λ (pair : Pair). is_seal_within key n pair.1) sent
  seals-row key r n = list_any-append (λ (pair : Pair). is_seal_within key n pair.1) sent ((feed, row r) ∷ []) ∙ or_false (list_any (λ (pair : Pair). is_seal_within key n pair.1) sent)

  seals-seal : (key k : Row) (n count : ℕ) → list_any (λ (pair : Pair). is_seal_within key n pair.1) (sent ++ (feed, seal k count) ∷ []) ≡ (list_any (λ (pair : Pair). is_seal_within key n pair.1) sent || (is_same_row k key && nat_le count n))
  seals-seal key k n count =
      list_any-append (λ (pair : Pair). is_seal_within key n pair.1) sent ((feed, seal k count) ∷ [])
      ∙ ap (λ b. list_any (λ (pair : Pair). is_seal_within key n pair.1) sent || b) (or_false (is_same_row k key && nat_le count n))

  of_key-row : (k r : Row) (of : Option Row) → key_of_entry i (port_of_feed i feed, r) ≡ of → is_of_key i k (port_of_feed i feed, r) ≡ option_map_or (is_same_row k) of false
  of_key-row k r of e = ap (λ o. option_map_or (is_same_row k) o false) e

  -- ---- a record of a partition

  module _ (r key : Row) (of : key_of_entry i (port_of_feed i feed, r) ≡ Some key) where
    keyed-row : keyed_rows i (sent ++ (feed, row r) ∷ []) ≡ keyed_rows i sent ++ r ∷ []
    keyed-row = chosen-row (λ entry. is_some (key_of_entry i entry)) r true (ap is_some of)

    -- where it came before, it is one of its partition's
    was_counted : ((pair : Pair) → Has pair sent → pair.0 ≡ feed) → Has r (keyed_rows i sent) → Has r (map (λ entry. entry.1) (filter (is_of_key i key) (entries_of i sent)))
    was_counted from h =
        let m = Has-from_map (λ (entry : Entry). entry.1) r (filter (λ entry. is_some (key_of_entry i entry)) (entries_of i sent)) h in
        let kept = Has-from_filter (λ entry. is_some (key_of_entry i entry)) m.0 (entries_of i sent) m.1 in
        let came = heard_entry i sent m.0 kept.0 in
        let at : port_of_feed i feed ≡ m.0.0 = ap (port_of_feed i) (sym (from (came.feed, row m.0.1) came.there)) ∙ came.port in
        let is : m.0 ≡ (port_of_feed i feed, r) = entry_same m.0 (port_of_feed i feed) r (sym at) m.2 in
        let own : is_of_key i key m.0 ≡ true = subst (λ (e : Entry). is_of_key i key e ≡ true) (sym is) (is-of_key i key (port_of_feed i feed, r) of) in
        subst (λ x. Has x (map (λ (entry : Entry). entry.1) (filter (is_of_key i key) (entries_of i sent)))) m.2
        (Has-map (λ (entry : Entry). entry.1) m.0 (filter (is_of_key i key) (entries_of i sent)) (Has-filter (is_of_key i key) m.0 (entries_of i sent) kept.0 own))
      where
        entry_same : (entry : Entry) (port : ℕ) (x : Row) → entry.0 ≡ port → entry.1 ≡ x → entry ≡ (port, x)
        entry_same entry port x p q = let f : ℕ → Row → Entry = λ n y. (n, y) in ap (λ n. f n entry.1) p ∙ ap (λ y. f port y) q

    -- and back
    was_keyed : (k : Row) → Has r (map (λ entry. entry.1) (filter (is_of_key i k) (entries_of i sent))) → Has r (keyed_rows i sent)
    was_keyed k h =
        let m = Has-from_map (λ (entry : Entry). entry.1) r (filter (is_of_key i k) (entries_of i sent)) h in
        let kept = Has-from_filter (is_of_key i k) m.0 (entries_of i sent) m.1 in
        let some : is_some (key_of_entry i m.0) ≡ true = ap is_some (of_key-is i k m.0 kept.1) in
        subst (λ x. Has x (keyed_rows i sent)) m.2 (Has-map (λ (entry : Entry). entry.1) m.0 (filter (λ entry. is_some (key_of_entry i entry)) (entries_of i sent)) (Has-filter (λ entry. is_some (key_of_entry i entry)) m.0 (entries_of i sent) kept.0 some))

    count-row : (k : Row) (same known : Bool) → is_same_row key k ≡ same → list_any (is_same_row r) (keyed_rows i sent) ≡ known → ((pair : Pair) → Has pair sent → pair.0 ≡ feed)
        → count_sent i (sent ++ (feed, row r) ∷ []) k ≡ cond (same && not known) (count_sent i sent k + 1) (count_sent i sent k)
    count-row k false known is of_known from =
        ap (λ l. length (set_of l)) (chosen-row (is_of_key i k) r false (of_key-row k r (Some key) of ∙ same_row-turned k key ∙ is) ∙ append-nil (map (λ (entry : Entry). entry.1) (filter (is_of_key i k) (entries_of i sent))))
    count-row k true true is of_known from =
        let rows : List Row = map (λ (entry : Entry). entry.1) (filter (is_of_key i k) (entries_of i sent)) in
        let counted : Has r rows = subst (λ x. Has r (map (λ (entry : Entry). entry.1) (filter (is_of_key i x) (entries_of i sent)))) (is_same_row-is key k is) (was_counted from (same-from_any is_same_row is_same_row-is is_same_row-itself r (keyed_rows i sent) of_known)) in
        ap (λ l. length (set_of l)) (chosen-row (is_of_key i k) r true (of_key-row k r (Some key) of ∙ same_row-turned k key ∙ is))
        ∙ ap (length {A = Row}) (set_of-push_present r rows counted)
    count-row k true false is of_known from =
        let rows : List Row = map (λ (entry : Entry). entry.1) (filter (is_of_key i k) (entries_of i sent)) in
        let new : ¬ Has r (set_of rows) = λ h. (
        let known : true ≡ false = sym (any-from_same is_same_row is_same_row-is is_same_row-itself r (keyed_rows i sent) (was_keyed k (Has-from_set_of r rows h))) ∙ of_known in cc
        ) in
        ap (λ l. length (set_of l)) (chosen-row (is_of_key i k) r true (of_key-row k r (Some key) of ∙ same_row-turned k key ∙ is))
        ∙ ap (length {A = Row}) (set_of-push r rows)
        ∙ length-insert_key-new record_cmp record_cmp_exact r (set_of rows) new

  -- ---- a record of no partition

  module _ (r : Row) (of : key_of_entry i (port_of_feed i feed, r) ≡ None) where
    keyed-no_row : keyed_rows i (sent ++ (feed, row r) ∷ []) ≡ keyed_rows i sent
    keyed-no_row = chosen-row (λ entry. is_some (key_of_entry i entry)) r false (ap is_some of) ∙ append-nil (keyed_rows i sent)

    count-no_row : (k : Row) → count_sent i (sent ++ (feed, row r) ∷ []) k ≡ count_sent i sent k
    count-no_row k =
        ap (λ l. length (set_of l)) (chosen-row (is_of_key i k) r false (of_key-row k r None of) ∙ append-nil (map (λ (entry : Entry). entry.1) (filter (is_of_key i k) (entries_of i sent))))

-- ---- one feed

module _ (i : Instance) (records : List Row) (feed : ℕ) (sent : List Pair) (was now : FeedView) where
  pub feed-row : FeedHeard i records feed sent was → (key : Row) (id : ℕ) → FeedHearsRow was now key id → id < length records → IsOneId records id → ((pair : Pair) → Has pair sent → pair.0 ≡ feed)
      → key_of_entry i (port_of_feed i feed, row_with_id records id) ≡ Some key → FeedHeard i records feed (sent ++ (feed, row (row_with_id records id)) ∷ []) now
  feed-row s key id hears within one from of = record {
    port = hears.port ∙ s.port;
    carries = hears.carries ∙ s.carries;
    given = λ other found. elim (cases_Bool (id == other)) [
      | inl same ↦ subst (λ (n : ℕ). n < length records) (eqb-true id other same) within
      | inr apart ↦ s.given other (sym (hears.known other ∙ ap (λ b. b || was.known other) apart) ∙ found)
    ];
    rows = λ r h. elim (Has-append_cases r (keyed_rows i sent) (row_with_id records id ∷ []) (subst (λ l. Has r l) (keyed-row i feed sent (row_with_id records id) key of) h)) [
      | inl before ↦ s.rows r before
      | inr last ↦ elim last [ inl is ↦ subst (λ x. Has x records) is (Has-get_or records id [] within) | inr none ↦ absurd none ]
    ];
    known = λ other below.
        hears.known other
        ∙ ap (λ b. (id == other) || b) (s.known other below)
        ∙ or_turned (id == other) (list_any (is_same_row (row_with_id records other)) (keyed_rows i sent)) (is_same_row (row_with_id records other) (row_with_id records id))
        (sym (same_row-same_id records id other one below) ∙ same_row-turned (row_with_id records id) (row_with_id records other))
        ∙ sym (list_any-append (is_same_row (row_with_id records other)) (keyed_rows i sent) (row_with_id records id ∷ []))
        ∙ ap (list_any (is_same_row (row_with_id records other))) (sym (keyed-row i feed sent (row_with_id records id) key of));
    have = λ k.
        hears.have k
        ∙ ap (λ (n : ℕ). cond (is_same_row key k && not (was.known id)) (n + 1) n) (s.have k)
        ∙ sym (count-row i feed sent (row_with_id records id) key of k (is_same_row key k) (was.known id) refl (sym (s.known id within)) from);
    need = λ k n. ap (λ o. is_met o n) (hears.need k) ∙ s.need k n ∙ sym (seals-row i feed sent k (row_with_id records id) n);
  }

  pub feed-seal : FeedHeard i records feed sent was → (key : Row) (count : ℕ) → FeedHearsSeal was now key count → FeedHeard i records feed (sent ++ (feed, seal key count) ∷ []) now
  feed-seal s key count hears = record {
    port = hears.port ∙ s.port;
    carries = hears.carries ∙ s.carries;
    given = λ other found. s.given other (sym (hears.known other) ∙ found);
    rows = λ r h. s.rows r (subst (λ es. Has r (map (λ (entry : Entry). entry.1) (filter (λ entry. is_some (key_of_entry i entry)) es))) (entries-seal i feed sent key count) h);
    known = λ other below.
        hears.known other ∙ s.known other below
        ∙ ap (λ es. list_any (is_same_row (row_with_id records other)) (map (λ (entry : Entry). entry.1) (filter (λ entry. is_some (key_of_entry i entry)) es))) (sym (entries-seal i feed sent key count));
    have = λ k. hears.have k ∙ s.have k ∙ ap (λ es. length (set_of (map (λ (entry : Entry). entry.1) (filter (is_of_key i k) es)))) (sym (entries-seal i feed sent key count));
    need = λ k n. hears.need k n ∙ ap (λ b. b || (is_same_row key k && nat_le count n)) (s.need k n) ∙ sym (seals-seal i feed sent k key n count);
  }

pub feed-no_row : (i : Instance) (records : List Row) (feed : ℕ) (sent : List Pair) (f : FeedView) (r : Row) → FeedHeard i records feed sent f → key_of_entry i (port_of_feed i feed, r) ≡ None → FeedHeard i records feed (sent ++ (feed, row r) ∷ []) f
feed-no_row i records feed sent f r s of = record {
  port = s.port;
  carries = s.carries;
  given = s.given;
  rows = λ x h. s.rows x (subst (λ l. Has x l) (keyed-no_row i feed sent r of) h);
  known = λ other below. s.known other below ∙ ap (list_any (is_same_row (row_with_id records other))) (sym (keyed-no_row i feed sent r of));
  have = λ k. s.have k ∙ sym (count-no_row i feed sent r of k);
  need = λ k n. s.need k n ∙ sym (seals-row i feed sent k r n);
}

-- ---- all feeds

from_feed-own : (feed : ℕ) (heard : List Pair) (m : Message) → from_feed feed (heard ++ (feed, m) ∷ []) ≡ from_feed feed heard ++ (feed, m) ∷ []
from_feed-own feed heard m =
    filter-append (λ (pair : Pair). pair.0 == feed) heard ((feed, m) ∷ [])
    ∙ ap (λ b. from_feed feed heard ++ cond b ((feed, m) ∷ []) []) (eq-eqb feed feed refl)

from_feed-other : (feed other : ℕ) (heard : List Pair) (m : Message) → (feed == other) ≡ false → from_feed other (heard ++ (feed, m) ∷ []) ≡ from_feed other heard
from_feed-other feed other heard m apart =
    filter-append (λ (pair : Pair). pair.0 == other) heard ((feed, m) ∷ [])
    ∙ ap (λ b. from_feed other heard ++ cond b ((feed, m) ∷ []) []) apart
    ∙ append-nil (from_feed other heard)

all_from : (feed : ℕ) (heard : List Pair) (pair : Pair) → Has pair (from_feed feed heard) → pair.0 ≡ feed
all_from feed heard pair h = eqb_is pair.0 feed (Has-from_filter (λ (p : Pair). p.0 == feed) pair heard h).1
  where
    eqb_is : (a b : ℕ) → (a == b) ≡ true → a ≡ b
    eqb_is a b e = elim (eqb_tells a b) [ inl one ↦ one.1 | inr other ↦ (let no_more : true ≡ false = sym e ∙ other.0 in cc) ]

module _ (i : Instance) (records : List Row) (heard : List Pair) where
  -- one feed hears a message, by what it then stands for
  one_hears : (old new : FeedsView) (feed : ℕ) (was now : FeedView) (m : Message) → FeedsHeard i records heard old → feed < feed_count old → IsOneChanged old new feed was now
      → FeedHeard i records feed (from_feed feed heard ++ (feed, m) ∷ []) now → FeedsHeard i records (heard ++ (feed, m) ∷ []) new
  one_hears old new feed was now m s within changed hears =
      let count : feed_count new ≡ feed_count old = ap (length {A = FeedView}) changed.feeds ∙ length-set old.feeds feed now in
      record {
        ports = changed.ports ∙ s.ports;
        count = count ∙ s.count;
        some = changed.some ∙ s.some;
        within = s.within;
        each = λ other d below. elim (eqb_tells feed other) [
          | inl one ↦
              subst (λ f. FeedHeard i records other (from_feed other (heard ++ (feed, m) ∷ [])) f)
              (sym (ap (λ fs. get_or fs other d) changed.feeds ∙ ap (λ n. get_or (set old.feeds feed now) n d) (sym one.1) ∙ get_or-set_same old.feeds feed now d within))
              (subst (λ n. FeedHeard i records n (from_feed n (heard ++ (feed, m) ∷ [])) now) one.1
              (subst (λ sent. FeedHeard i records feed sent now) (sym (from_feed-own feed heard m)) hears))
          | inr apart ↦
              subst (λ f. FeedHeard i records other (from_feed other (heard ++ (feed, m) ∷ [])) f)
              (sym (ap (λ fs. get_or fs other d) changed.feeds ∙ get_or-set_other old.feeds feed other now d (λ e. apart.1 (sym e))))
              (subst (λ sent. FeedHeard i records other sent (get_or old.feeds other d)) (sym (from_feed-other feed other heard m apart.0)) (s.each other d (subst (λ n. other < n) count below)))
        ];
      }

  pub feeds-row : (old new : FeedsView) (feed : ℕ) (key : Row) (id : ℕ) → FeedsHeard i records heard old → HearsRow old new feed key id → feed < feed_count old → id < length records → IsOneId records id
      → key_of_entry i (port_of_feed i feed, row_with_id records id) ≡ Some key → FeedsHeard i records (heard ++ (feed, row (row_with_id records id)) ∷ []) new
  feeds-row old new feed key id s h within given one of =
      let was : FeedHeard i records feed (from_feed feed heard) h.was = subst (λ f. FeedHeard i records feed (from_feed feed heard) f) (sym h.changed.first) (s.each feed h.was within) in
      one_hears old new feed h.was h.now (row (row_with_id records id)) s within h.changed (feed-row i records feed (from_feed feed heard) h.was h.now was key id h.hears given one (all_from feed heard) of)

  pub feeds-seal : (old new : FeedsView) (feed : ℕ) (key : Row) (count : ℕ) → FeedsHeard i records heard old → HearsSeal old new feed key count → feed < feed_count old → FeedsHeard i records (heard ++ (feed, seal key count) ∷ []) new
  feeds-seal old new feed key count s h within =
      let was : FeedHeard i records feed (from_feed feed heard) h.was = subst (λ f. FeedHeard i records feed (from_feed feed heard) f) (sym h.changed.first) (s.each feed h.was within) in
      one_hears old new feed h.was h.now (seal key count) s within h.changed (feed-seal i records feed (from_feed feed heard) h.was h.now was key count h.hears)

  pub feeds-no_row : (f : FeedsView) (feed : ℕ) (r : Row) → FeedsHeard i records heard f → key_of_entry i (port_of_feed i feed, r) ≡ None → FeedsHeard i records (heard ++ (feed, row r) ∷ []) f
  feeds-no_row f feed r s of = record {
    ports = s.ports;
    count = s.count;
    some = s.some;
    within = s.within;
    each = λ other d below. elim (eqb_tells feed other) [
      | inl one ↦
          subst (λ n. FeedHeard i records n (from_feed n (heard ++ (feed, row r) ∷ [])) (get_or f.feeds n d)) one.1
          (subst (λ sent. FeedHeard i records feed sent (get_or f.feeds feed d)) (sym (from_feed-own feed heard (row r)))
          (feed-no_row i records feed (from_feed feed heard) (get_or f.feeds feed d) r (s.each feed d (subst (λ n. n < feed_count f) (sym one.1) below)) of))
      | inr apart ↦ subst (λ sent. FeedHeard i records other sent (get_or f.feeds other d)) (sym (from_feed-other feed other heard (row r) apart.0)) (s.each other d below)
    ];
  }

  -- ---- what the feeds answer of ports and keys

  pub port_in-is : (f : FeedsView) (feed : ℕ) → FeedsHeard i records heard f → feed < feed_count f → port_in f feed ≡ port_of_feed i feed
  port_in-is f feed s within = elim (slice_get_cases f.feeds feed).1 [
    | inl m ↦ ap (λ (o : Option FeedView). option_map_or (λ (x : FeedView). x.port) o (length f.ports)) m.2 ∙ ap (λ (x : FeedView). x.port) (sym m.3) ∙ (s.each feed m.0 within).port
    | inr past ↦ absurd (let le : feed_count f ≤ feed = past.0 in omega arith)
  ]

  pub key_in-is : (f : FeedsView) (entry : Entry) → FeedsHeard i records heard f → key_in f entry ≡ key_of_entry i entry
  key_in-is f entry s = ap (λ (ports : List PortKey). option_map (λ (places : List ℕ). cells places entry.1) (option_and_then (λ (p : PortKey). p.places) (slice_get ports entry.0))) s.ports

  pub carries_in-is : (f : FeedsView) (port : ℕ) → FeedsHeard i records heard f → carries_in f port ≡ is_carrying i port
  carries_in-is f port s = ap (λ (ports : List PortKey). option_map_or (λ (p : PortKey). p.carries) (slice_get ports port) false) s.ports
