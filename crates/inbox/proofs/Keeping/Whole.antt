-- The feeds of an inbox say which partitions are whole, and which become whole with a batch.
use Rattle.std.proofs.Common.{◌≡◌, refl, ap, sym, subst, ◌∙◌, ℕ, suc, ◌+◌, ◌<◌, ◌&&◌, ◌||◌, Bool, true, false, not, cond, Option, Some, None, List, [], ◌∷◌, ◌++◌, length, map, filter, arith, inl, inr, get_or}
use Rattle.std.specs.List.{list_any, list_all, filter_map, range_with_len}
use Rattle.std.specs.Option.{option_map_or}
use Rattle.std.proofs.lemmas.Bool.{cases_Bool}
use Rattle.blz_value.specs.Members.{Has}
use Rattle.blz_value.specs.Record.{Row}
use Rattle.blz_value.specs.Sets.{set_of}
use Rattle.blz_value.proofs.Membership.{Has-filter, Has-from_filter, Has-from_any}
use Rattle.blz_value.proofs.OperatorsLemmas.{sorted_filter}
use Rattle.blz_value.proofs.SetLaws.{sorted_set_of, Has-set_of, Has-from_set_of, same_row_sets}
use Rattle.topo_forms.specs.Messages.{Message, row, seal}
use Rattle.messages.specs.Messages.{Pair, Batch, Entry, sealed_in}
use Rattle.inbox.specs.Instances.{Instance, port_of_feed, is_carrying, carrying_feeds, key_of_entry}
use Rattle.inbox.specs.Timesteps.{is_seal_within, from_feed, is_whole_from, is_some_feed, is_whole, is_due, sealed_keys, newly_whole}
use Rattle.messages.specs.Feeds.{FeedView, FeedsView, feed_count, key_in, is_enough, is_whole_in, is_due_in}
use Rattle.inbox.specs.Code.Batches.{key_by, if_open, open_key}
use Rattle.inbox.specs.Code.Heard.{FeedsHeard}
use Rattle.messages.proofs.MessagesLemmas.{is_same_row-is}
use Rattle.inbox.proofs.TimestepLemmas.Touching.{is_touching, is_message_of, becomes-is_touching}
use Rattle.inbox.proofs.TimestepLemmas.UnderSeal.{of_key-is}
use Rattle.inbox.proofs.TimestepLemmas.Whole.{newly-becomes, becomes-newly, Has-filter_map, Has-from_filter_map}
use Rattle.inbox.proofs.Keeping.Feeds.{port_in-is, key_in-is}

-- ---- all of those that pass

pub all-filter : {X : Type 0} (p q : X → Bool) (xs : List X) → list_all q (filter p xs) ≡ list_all (λ x. not (p x) || q x) xs
all-filter p q [] = refl
all-filter p q (x ∷ xs) =
    elim (p x) as (λ b. list_all q (cond b (x ∷ filter p xs) (filter p xs)) ≡ ((not b || q x) && list_all (λ y. not (p y) || q y) xs)) [
      | true ↦ ap (λ b. q x && b) (all-filter p q xs)
      | false ↦ all-filter p q xs
    ]

-- a test of the elements is one of their places
pub all_by_place : {X : Type 0} (xs : List X) (g : X → Bool) (f : ℕ → Bool) (a : ℕ) → ((k : ℕ) (d : X) → k < length xs → g (get_or xs k d) ≡ f (a + k)) → list_all g xs ≡ list_all f (range_with_len a (length xs))
all_by_place [] g f a same = refl
all_by_place (x ∷ xs) g f a same =
    let start : a + 0 ≡ a = omega arith in
    ap (λ b. b && list_all g xs) (same 0 x (let below : 0 < suc (length xs) = omega arith in below) ∙ ap f start)
    ∙ ap (λ b. f a && b) (all_by_place xs g f (a + 1) (λ k d below.
    let next : a + suc k ≡ a + 1 + k = omega arith in
    same (suc k) d (let more : suc k < suc (length xs) = omega arith in more) ∙ ap f next))

-- ---- whole partitions

module _ (i : Instance) (records : List Row) (heard : List Pair) (f : FeedsView) (s : FeedsHeard i records heard f) where
  enough-is : (key : Row) (feed : ℕ) (d : FeedView) → feed < feed_count f → is_enough (get_or f.feeds feed d) key ≡ is_whole_from i heard key feed
  enough-is key feed d within =
      let own = s.each feed d within in
      own.need key ((get_or f.feeds feed d).have key)
      ∙ ap (λ (n : ℕ). list_any (λ (pair : Pair). is_seal_within key n pair.1) (from_feed feed heard)) (own.have key)

  pub whole_in-is : (key : Row) → is_whole_in f key ≡ is_whole i heard key
  whole_in-is key =
      let carrying : ℕ → Bool = λ feed. is_carrying i (port_of_feed i feed) in
      let passes : ℕ → Bool = λ feed. not (carrying feed) || is_whole_from i heard key feed in
      ap (λ b. b && list_all (λ (x : FeedView). not x.carries || is_enough x key) f.feeds) s.some
      ∙ ap (λ b. is_some_feed (carrying_feeds i) && b) (
      all_by_place f.feeds (λ (x : FeedView). not x.carries || is_enough x key) passes 0 (λ feed d within.
      let zero_more : 0 + feed ≡ feed = omega arith in
      ap (λ b. not b || is_enough (get_or f.feeds feed d) key) (s.each feed d within).carries
      ∙ ap (λ b. not (carrying feed) || b) (enough-is key feed d within)
      ∙ ap passes (sym zero_more))
      ∙ ap (λ n. list_all passes (range_with_len 0 n)) s.count
      ∙ sym (all-filter carrying (is_whole_from i heard key) (range_with_len 0 (length i.feeds)))
      )

  pub due_in-is : (entry : Entry) → is_due_in f (key_in f entry) ≡ is_due i heard entry
  due_in-is entry = ap (is_due_in f) (key_in-is i records heard f entry s) ∙ by (key_of_entry i entry)
    where
      by : (key : Option Row) → is_due_in f key ≡ option_map_or (is_whole i heard) key true
      by None = refl
      by (Some key) = whole_in-is key

  -- ---- what becomes whole

  key_of_message : (feed : ℕ) (message : Message) (key : Row) → feed < feed_count f → is_message_of i key feed message ≡ true → key_by f feed message ≡ Some key
  key_of_message feed (row r) key within e =
      ap (λ (port : ℕ). key_in f (port, r)) (port_in-is i records heard f feed s within)
      ∙ key_in-is i records heard f (port_of_feed i feed, r) s
      ∙ of_key-is i key (port_of_feed i feed, r) e
  key_of_message feed (seal k n) key within e = ap Some (is_same_row-is k key e)

  partial-from : (key : Option Row) (own : Row) → if_open f key ≡ Some own → is_whole_in f own ≡ false
  partial-from None own e = cc
  partial-from (Some key) own e = elim (cases_Bool (is_whole_in f key)) [
    | inl t ↦ (let bad : None ≡ Some own = ap (λ b. cond b None (Some key)) (sym t) ∙ e in cc)
    | inr not_so ↦ (let same : Some key ≡ Some own = ap (λ b. cond b None (Some key)) (sym not_so) ∙ e in
        subst (λ k. is_whole_in f k ≡ false) (let is : key ≡ own = cc in is) not_so)
  ]

  pub opens : (batch : Batch) (key : Row) → ((pair : Pair) → Has pair batch → pair.0 < feed_count f) → list_any (is_touching i key) batch ≡ true → is_whole i heard key ≡ false → Has key (filter_map (open_key f) batch)
  opens batch key within touched not_so =
      let m = Has-from_any (is_touching i key) batch touched in
      let own : key_by f m.0.0 m.0.1 ≡ Some key = key_of_message m.0.0 m.0.1 key (within m.0 m.1) m.2 in
      Has-filter_map (open_key f) m.0 key batch m.1 (ap (if_open f) own ∙ ap (λ b. cond b None (Some key)) (whole_in-is key ∙ not_so))

  pub opened : (batch : Batch) (key : Row) → Has key (filter_map (open_key f) batch) → is_whole i heard key ≡ false
  opened batch key h =
      let m = Has-from_filter_map (open_key f) key batch h in
      sym (whole_in-is key) ∙ partial-from (key_by f m.0.0 m.0.1) key m.2

-- the partitions that a batch touches and that weren't whole, of which those that are whole then become whole
pub newly-is : (i : Instance) (records : List Row) (heard : List Pair) (batch : Batch) (old new : FeedsView) (partial whole : List Row) → FeedsHeard i records heard old → FeedsHeard i records (heard ++ batch) new
    → ((pair : Pair) → Has pair batch → pair.0 < feed_count old)
    → partial ≡ set_of (filter_map (open_key old) batch) → whole ≡ filter (is_whole_in new) partial → whole ≡ newly_whole i heard batch
newly-is i records heard batch old new partial whole s t within open_is whole_is =
    let keys : List Row = filter_map (open_key old) batch in
    let test : Row → Bool = λ key. not (is_whole i heard key) && is_whole i (heard ++ batch) key in
    whole_is ∙ ap (filter (is_whole_in new)) open_is
    ∙ same_row_sets (filter (is_whole_in new) (set_of keys)) (newly_whole i heard batch)
    (sorted_filter (is_whole_in new) (set_of keys) (sorted_set_of keys))
    (sorted_filter test (sealed_keys (heard ++ batch)) (sorted_set_of (sealed_in (map (λ pair. pair.1) (heard ++ batch))))) (
      λ q h.
          let kept = Has-from_filter (is_whole_in new) q (set_of keys) h in
          becomes-newly i heard batch q (record {
            before = opened i records heard old s batch q (Has-from_set_of q keys kept.0);
            after = sym (whole_in-is i records (heard ++ batch) new t q) ∙ kept.1;
          }),
      λ q h.
          let b = newly-becomes i heard batch q h in
          Has-filter (is_whole_in new) q (set_of keys)
          (Has-set_of q keys (opens i records heard old s batch q within (becomes-is_touching i heard batch q b) b.before))
          (whole_in-is i records (heard ++ batch) new t q ∙ b.after),
    )
