-- What a feed hears by the numbers of partitions is what is seen of it by their key values.
use Rattle.std.proofs.Common.{◌≡◌, refl, ap, sym, subst, set, ◌∙◌, ℕ, ◌+◌, ◌<◌, ◌≤◌, ◌==◌, ◌&&◌, ◌||◌, nat_le, nat_lt, Bool, true, false, not, cond, Option, None, Some, List, [], ◌∷◌, length, map, get_or, arith, inl, inr}
use Rattle.std.specs.List.{count_by, slice_get}
use Rattle.std.specs.Option.{option_map_or, option_and_then}
use Rattle.std.proofs.lemmas.Bool.{cases_Bool, cases_eq, eq-eqb, ne_eqb}
use Rattle.blz_pool.specs.Pool.{number_of}
use Rattle.blz_pool.proofs.Records.{number_of-get}
use Rattle.blz_value.specs.Record.{Row}
use Rattle.blz_value.specs.Message.{is_same_row}
use Rattle.messages.specs.Numbers.{has_number}
use Rattle.messages.proofs.MessagesLemmas.{is_same_row-is, is_same_row-itself}
use Rattle.messages.proofs.NumbersLemmas.{none_set}
use Rattle.messages.specs.PartitionCounts.{have_at, need_at, is_met}
use Rattle.messages.specs.Feeds.{FeedView, IsOneChanged, HearsRow, HearsSeal, IsFreshFeed, IsFresh, IsCleared, carries_at}
use Rattle.messages.specs.Ports.{PortKey, port_keys}
use Rattle.messages.specs.Views.{have_of, need_of, feed_view, views_of}
use Rattle.messages.specs.Code.Hearing.{IsEmpty, AreEmpty, AreCleared, RowHeard, SealHeard}
use Rattle.messages.specs.declared.feed.Feed.{Feed}
use Rattle.messages.specs.declared.port.Port.{Port}
use Rattle.messages.proofs.FeedsLemmas.{views-set, views-get, views-length, views-any}
use Rattle.messages.proofs.TalliesLemmas.{any-passes, count-places}

same_turned : (a b : ℕ) → (a == b) ≡ (b == a)
same_turned a b = elim (cases_eq a b) [
  | inl same ↦ eq-eqb a b same ∙ sym (eq-eqb b a (sym same))
  | inr other ↦ ne_eqb a b other ∙ sym (ne_eqb b a (λ e. other (sym e)))
]

-- a partition has this number exactly where its key value is this one's
module _ (keys : List Row) (key : Row) (number : ℕ) (found : number_of keys key ≡ Some number) where
  number-same : (k : Row) (n : ℕ) → number_of keys k ≡ Some n → (n == number) ≡ is_same_row key k
  number-same k n at = elim (cases_Bool (is_same_row key k)) [
    | inl same ↦
        let one : Some n ≡ Some number = sym at ∙ ap (number_of keys) (sym (is_same_row-is key k same)) ∙ found in
        let is : n ≡ number = cc in
        eq-eqb n number is ∙ sym same
    | inr apart ↦ elim (cases_eq n number) [
      | inl is ↦
          let there : slice_get keys number ≡ Some key = number_of-get keys key number found in
          let here : slice_get keys n ≡ Some k = number_of-get keys k n at in
          let both : Some key ≡ Some k = sym there ∙ ap (slice_get keys) (sym is) ∙ here in
          let one : key ≡ k = cc in
          let bad : true ≡ false = sym (is_same_row-itself key) ∙ ap (is_same_row key) one ∙ apart in
          cc
      | inr other ↦ ne_eqb n number other ∙ sym apart
    ]
  ]

  -- one without a number isn't this one
  number-other : (k : Row) → number_of keys k ≡ None → is_same_row key k ≡ false
  number-other k none = elim (cases_Bool (is_same_row key k)) [
    | inl same ↦ (let bad : Some number ≡ None = sym found ∙ ap (number_of keys) (is_same_row-is key k same) ∙ none in cc)
    | inr apart ↦ apart
  ]

  module _ (was now : Feed) where
    have-seen : (known : Bool) → ((n : ℕ) → have_at now.counts.items n ≡ cond (n == number && not known) (have_at was.counts.items n + 1) (have_at was.counts.items n))
        → (k : Row) → have_of keys now.counts.items k ≡ cond (is_same_row key k && not known) (have_of keys was.counts.items k + 1) (have_of keys was.counts.items k)
    have-seen known have k = by (number_of keys k) refl
      where
        by : (at : Option ℕ) → number_of keys k ≡ at
            → option_map_or (have_at now.counts.items) at 0 ≡ cond (is_same_row key k && not known) (option_map_or (have_at was.counts.items) at 0 + 1) (option_map_or (have_at was.counts.items) at 0)
        by None none = sym (ap (λ b. cond (b && not known) 1 0) (number-other k none))
        by (Some n) at = have n ∙ ap (λ b. cond (b && not known) (have_at was.counts.items n + 1) (have_at was.counts.items n)) (number-same k n at)

    have-kept : ((n : ℕ) → have_at now.counts.items n ≡ have_at was.counts.items n) → (k : Row) → have_of keys now.counts.items k ≡ have_of keys was.counts.items k
    have-kept have k = by (number_of keys k)
      where
        by : (at : Option ℕ) → option_map_or (have_at now.counts.items) at 0 ≡ option_map_or (have_at was.counts.items) at 0
        by None = refl
        by (Some n) = have n

    need-kept : ((n : ℕ) → need_at now.counts.items n ≡ need_at was.counts.items n) → (k : Row) → need_of keys now.counts.items k ≡ need_of keys was.counts.items k
    need-kept need k = by (number_of keys k)
      where
        by : (at : Option ℕ) → option_and_then (need_at now.counts.items) at ≡ option_and_then (need_at was.counts.items) at
        by None = refl
        by (Some n) = need n

    need-seen : (count : ℕ) → ((n m : ℕ) → is_met (need_at now.counts.items n) m ≡ (is_met (need_at was.counts.items n) m || (n == number && nat_le count m)))
        → (k : Row) (m : ℕ) → is_met (need_of keys now.counts.items k) m ≡ (is_met (need_of keys was.counts.items k) m || (is_same_row key k && nat_le count m))
    need-seen count need k m = by (number_of keys k) refl
      where
        by : (at : Option ℕ) → number_of keys k ≡ at
            → is_met (option_and_then (need_at now.counts.items) at) m ≡ (is_met (option_and_then (need_at was.counts.items) at) m || (is_same_row key k && nat_le count m))
        by None none = sym (ap (λ b. b && nat_le count m) (number-other k none))
        by (Some n) at = need n m ∙ ap (λ b. is_met (need_at was.counts.items n) m || (b && nat_le count m)) (number-same k n at)

  module _ (ports : List Port) (old new : List Feed) (carrying feed : ℕ) (below : feed < length old) where
    changed : (was now : Feed) → new ≡ set old feed now → was ≡ get_or old feed was → IsOneChanged (views_of ports old keys carrying) (views_of ports new keys carrying) feed (feed_view keys was) (feed_view keys now)
    changed was now feeds first = record {
      ports = refl;
      some = refl;
      feeds = ap (map (feed_view keys)) feeds ∙ views-set (feed_view keys) old feed now;
      first = ap (feed_view keys) first ∙ sym (views-get (feed_view keys) old feed was (feed_view keys was) below);
    }

    pub row_seen : (id : ℕ) → RowHeard old new feed number id → HearsRow (views_of ports old keys carrying) (views_of ports new keys carrying) feed key id
    row_seen id h = record {
      was = feed_view keys h.was;
      now = feed_view keys h.now;
      changed = changed h.was h.now h.feeds h.first;
      hears = record {
        port = h.port;
        carries = h.carries;
        known = λ other. h.known other ∙ ap (λ b. b || has_number h.was.known other) (same_turned other id);
        have = have-seen h.was h.now (has_number h.was.known id) h.have;
        need = need-kept h.was h.now h.need;
      };
    }

    pub seal_seen : (count : ℕ) → SealHeard old new feed number count → HearsSeal (views_of ports old keys carrying) (views_of ports new keys carrying) feed key count
    seal_seen count h = record {
      was = feed_view keys h.was;
      now = feed_view keys h.now;
      changed = changed h.was h.now h.feeds h.first;
      hears = record {
        port = h.port;
        carries = h.carries;
        known = λ other. ap (λ (words : List ℕ). has_number words other) h.known;
        have = have-kept h.was h.now h.have;
        need = need-seen h.was h.now count h.need;
      };
    }

-- ---- nothing came

empty_seen : (keys : List Row) (port : ℕ) (carries : Bool) (f : Feed) → IsEmpty port carries f → IsFreshFeed port carries (feed_view keys f)
empty_seen keys port carries f e = record {
  port_is = e.port_is;
  carries_is = e.carries_is;
  known = λ id. ap (λ (words : List ℕ). has_number words id) e.known ∙ none_set id;
  have = λ key. have (number_of keys key);
  need = λ key n. need n (number_of keys key);
}
  where
    have : (at : Option ℕ) → option_map_or (have_at f.counts.items) at 0 ≡ 0
    have None = refl
    have (Some n) = ap (λ counts. have_at counts n) e.counts

    need : (m : ℕ) (at : Option ℕ) → is_met (option_and_then (need_at f.counts.items) at) m ≡ false
    need m None = refl
    need m (Some n) = ap (λ counts. is_met (need_at counts n) m) e.counts

pub fresh_seen : (ports : List Port) (feed_ports : List ℕ) (feeds : List Feed) (carrying : ℕ) → AreEmpty (port_keys ports) feed_ports feeds → carrying ≡ count_by (λ f. f.carries) feeds → IsFresh (port_keys ports) feed_ports (views_of ports feeds [] carrying)
fresh_seen ports feed_ports feeds carrying empty all = record {
  ports_are = refl;
  some = ap (nat_lt 0) all ∙ sym (any-passes (λ f. f.carries) feeds) ∙ sym (views-any (feed_view []) (λ x. x.carries) feeds);
  feeds = record {
    count = views-length (feed_view []) feeds ∙ empty.count;
    each = λ k d below. at_view k d (let inside : k < length feeds = subst (λ n. k < n) (views-length (feed_view []) feeds) below in inside);
  };
}
  where
    at_view : (k : ℕ) (d : FeedView) → k < length feeds → IsFreshFeed (get_or feed_ports k 0) (carries_at (port_keys ports) (get_or feed_ports k 0)) (get_or (map (feed_view []) feeds) k d)
    at_view k d inside =
        let f : (e : Feed) × (get_or (map (feed_view []) feeds) k d ≡ feed_view [] (get_or feeds k e)) = some_feed feeds k inside in
        subst (λ x. IsFreshFeed (get_or feed_ports k 0) (carries_at (port_keys ports) (get_or feed_ports k 0)) x) (sym f.1) (empty_seen [] (get_or feed_ports k 0) (carries_at (port_keys ports) (get_or feed_ports k 0)) (get_or feeds k f.0) (empty.each k f.0 inside))
      where
        some_feed : (fs : List Feed) (n : ℕ) → n < length fs → (e : Feed) × (get_or (map (feed_view []) fs) n d ≡ feed_view [] (get_or fs n e))
        some_feed [] n below = absurd (omega (arith, below))
        some_feed (x ∷ fs) n below = (x, views-get (feed_view []) (x ∷ fs) n x d below)

pub cleared_seen : (ports : List Port) (old new : List Feed) (keys : List Row) (carrying : ℕ) → AreCleared old new → IsCleared (views_of ports old keys carrying) (views_of ports new [] carrying)
cleared_seen ports old new keys carrying c = record {
  ports = refl;
  some = refl;
  count = views-length (feed_view []) new ∙ c.count ∙ sym (views-length (feed_view keys) old);
  each = λ k d below. at_view k d (let inside : k < length old = subst (λ n. k < n) (views-length (feed_view keys) old) below in inside);
}
  where
    at_view : (k : ℕ) (d : FeedView) → k < length old → IsFreshFeed (get_or (map (feed_view keys) old) k d).port (get_or (map (feed_view keys) old) k d).carries (get_or (map (feed_view []) new) k d)
    at_view k d inside =
        let e : Feed = some_feed old inside in
        let was : get_or (map (feed_view keys) old) k d ≡ feed_view keys (get_or old k e) = views-get (feed_view keys) old k e d inside in
        let now : get_or (map (feed_view []) new) k d ≡ feed_view [] (get_or new k e) = views-get (feed_view []) new k e d (subst (λ n. k < n) (sym c.count) inside) in
        subst (λ x. IsFreshFeed x.port x.carries (get_or (map (feed_view []) new) k d)) (sym was)
        (subst (λ x. IsFreshFeed (get_or old k e).port (get_or old k e).carries x) (sym now)
        (empty_seen [] (get_or old k e).port (get_or old k e).carries (get_or new k e) (c.each k e inside)))
      where
        some_feed : {n : ℕ} (fs : List Feed) → n < length fs → Feed
        some_feed [] below = absurd (omega (arith, below))
        some_feed (x ∷ fs) below = x

-- the tallies then
pub cleared_carrying : (old new : List Feed) (carrying : ℕ) → AreCleared old new → carrying ≡ count_by (λ f. f.carries) old → carrying ≡ count_by (λ f. f.carries) new
cleared_carrying old new carrying c all = all ∙ sym (count-places (λ f. f.carries) (λ f. f.carries) old new c.count (λ k d below. (c.each k d below).carries_is))

pub cleared_few : (old new : List Feed) → AreCleared old new → (k : ℕ) (d : Feed) → k < length new → length (get_or new k d).counts.items ≤ 0
cleared_few old new c k d below = (let none = ap length (c.each k d (subst (λ n. k < n) c.count below)).counts in omega (arith, none))

pub empty_few : (ports : List PortKey) (feed_ports : List ℕ) (feeds : List Feed) → AreEmpty ports feed_ports feeds → (k : ℕ) (d : Feed) → k < length feeds → length (get_or feeds k d).counts.items ≤ 0
empty_few ports feed_ports feeds e k d below = (let none = ap length (e.each k d below).counts in omega (arith, none))
