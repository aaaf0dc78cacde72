-- Where no work is open, nothing is left.
--
-- A lane without works has no open index. So all messages of its list were heard, or stand in the log;
-- each feed of an instance is that of a lane, and each replica of an Order component is a taker.
use Rattle.std.proofs.Common.{◌≡◌, ◌<◌, ◌≤◌, ◌+◌, ℕ, suc, Bool, true, false, not, Option, Some, List, [], ◌∷◌, ◌++◌, length, map, filter, take, slice_get, refl, ap, ◌∙◌, sym, subst, inl, inr, arith}
use Rattle.std.specs.Prelude.{if◌then◌else◌}
use Rattle.std.specs.List.{count_by, enumerate_from, flat_map, list_any, range_with_len, sum_by}
use Rattle.std.specs.Option.{option_map_or, option_and_then}
use Rattle.std.proofs.lemmas.Bool.{ltb-false}
use Rattle.std.proofs.lemmas.Option.{get_or_from_slice_get, slice_get_within}
use Rattle.std.proofs.lemmas.List.Sums.{length-filter, sum_by-cons}
use Rattle.blz_value.specs.Members.{Has}
use Rattle.blz_value.specs.Record.{Row as Record}
use Rattle.blz_value.proofs.Membership.{Has-flat_map}
use Rattle.topo_forms.specs.Data.{Data}
use Rattle.topo_forms.specs.Messages.{Message, row, seal, row_in, rows_in}
use Rattle.blz_value.specs.NumberSets.{below}
use Rattle.blz_value.proofs.Ranges.{Has-from_below as below_is}
use Rattle.topo_forms.specs.Valid.{IsValid}
use Rattle.topo_forms.specs.View.{View, replicas_of}
use Rattle.inbox.specs.Completeness.{left_at, left_count, left_of, left_out, undelivered, unheard, unordered, untaken}
use Rattle.inbox.specs.Events.{take_one}
use Rattle.inbox.specs.Executions.{Execution, emitted_list}
use Rattle.inbox.specs.Instances.{Instance}
use Rattle.messages.specs.Messages.{Pair, Entry, all_pairs, is_same_entry, is_same_pair}
use Rattle.inbox.specs.Wiring.{Wiring, instance_at, instances_at, is_sequencer, wiring_of}
use Rattle.sched_turns.specs.Windows.{open_below, first_open}
use Rattle.sched_net.proofs.Counting.{numbers_counted}
use Rattle.sched_run.specs.Made.{all_lanes, all_takers, can_take, event_in, is_open_in, is_undelivered, is_unordered, lane_list, open_works, works_in, works_of}
use Rattle.sched_run.specs.declared.lanes.Lane.{Lane}
use Rattle.sched_run.specs.declared.lanes.Lane.TheVariants.{Deliver, Order}
use Rattle.sched_run.specs.declared.lanes.Taker.{Taker}
use Rattle.sched_run.proofs.LanesKnown.{component_wired, count_wired, delivery_stands, enumerated_at, mode_wired, ordering_stands, place_of, taker_stands}
use Rattle.sched_run.proofs.LanesLemmas.{order_wired}

-- ---- lists without members

no_members : {X : Type 0} (xs : List X) → ((x : X) → Has x xs → ⊥) → xs ≡ []
no_members [] none = refl
no_members (x ∷ xs) none = absurd (none x (inl refl))

empty_left : {X : Type 0} (xs ys : List X) → xs ++ ys ≡ [] → xs ≡ []
empty_left [] ys e = refl
empty_left (x ∷ xs) ys e = cc

empty_right : {X : Type 0} (xs ys : List X) → xs ++ ys ≡ [] → ys ≡ []
empty_right [] ys e = e
empty_right (x ∷ xs) ys e = cc

empty_map : {X Y : Type 0} (f : X → Y) (xs : List X) → map f xs ≡ [] → xs ≡ []
empty_map f [] e = refl
empty_map f (x ∷ xs) e = cc

empty_part : {X Y : Type 0} (f : X → List Y) (xs : List X) (x : X) → flat_map f xs ≡ [] → Has x xs → f x ≡ []
empty_part {Y = Y} f xs x none h = no_members (f x) (λ y g. let bad : Has y [] = subst (λ (l : List Y). Has y l) none (Has-flat_map f x y xs h g) in bad)

empty_front : {X : Type 0} (n : ℕ) (xs : List X) → take (suc n) xs ≡ [] → xs ≡ []
empty_front n [] e = refl
empty_front n (x ∷ xs) e = cc

-- ---- one list

-- where no index of it is open, as many are unheard
pub all_heard : (heard : List Pair) (feed : ℕ) (list : List Message) → first_open (is_undelivered heard feed list) (length list) ≡ [] → length (unheard heard feed list) ≡ 0
all_heard heard feed list none =
    let p : ℕ → Bool = is_undelivered heard feed list in
    let q : Message → Bool = λ message. not (list_any (is_same_pair (feed, message)) heard) in
    sym (numbers_counted p q list (λ k m at. ap (λ (o : Option Message). option_map_or q o false) at))
    ∙ sym (length-filter p (below (length list)))
    ∙ ap (λ (l : List ℕ). length l) (empty_front 7 (open_below p (length list)) none)

rows_filtered : (test : Record → Bool) (list : List Message) → length (filter (λ m. option_map_or test (row_in m) false) list) ≡ length (filter test (rows_in list))
rows_filtered test list = length-filter (λ m. option_map_or test (row_in m) false) list ∙ go list 0 ∙ sym (length-filter test (rows_in list))
  where
    go : (ms : List Message) (n : ℕ) → Rattle.std.specs.List.fold (λ s m. s + (if option_map_or test (row_in m) false then 1 else 0)) n ms ≡ Rattle.std.specs.List.fold (λ s r. s + (if test r then 1 else 0)) n (rows_in ms)
    go [] n = refl
    go (row r ∷ ms) n = go ms _
    go (seal key count ∷ ms) n =
        ap (λ k. Rattle.std.specs.List.fold (λ s m. s + (if option_map_or test (row_in m) false then 1 else 0)) k ms) (let e : n + 0 ≡ n = omega arith in e)
        ∙ go ms n

-- or aren't in a log
pub all_logged : (log : List Entry) (port : ℕ) (list : List Message) → first_open (is_unordered log port list) (length list) ≡ [] → length (filter (λ r. not (list_any (is_same_entry (port, r)) log)) (rows_in list)) ≡ 0
all_logged log port list none =
    let test : Record → Bool = λ r. not (list_any (is_same_entry (port, r)) log) in
    let p : ℕ → Bool = is_unordered log port list in
    let q : Message → Bool = λ m. option_map_or test (row_in m) false in
    sym (rows_filtered test list)
    ∙ sym (numbers_counted p q list (λ k m at. ap (λ (o : Option Message). option_map_or test (option_and_then row_in o) false) at))
    ∙ sym (length-filter p (below (length list)))
    ∙ ap (λ (l : List ℕ). length l) (empty_front 7 (open_below p (length list)) none)

-- ---- all that is left

sum_nothing : {X : Type 0} (f : X → ℕ) (xs : List X) → ((x : X) → Has x xs → f x ≡ 0) → sum_by f xs ≡ 0
sum_nothing f [] none = refl
sum_nothing f (x ∷ xs) none = omega (arith, sum_by-cons f x xs, none x (inl refl), sum_nothing f xs (λ y h. none y (inr h)))

module _ (v : View) (valid : IsValid v) (given : Data) (x : Execution) (none : open_works (wiring_of v) given x ≡ []) where
  abbrev wired : Wiring
  wired = wiring_of v

  nothing_open : (lane : Lane) → Has lane (all_lanes wired) → first_open (is_open_in wired given x lane) (length (lane_list wired given x lane)) ≡ []
  nothing_open lane h =
      empty_map (event_in lane) (first_open (is_open_in wired given x lane) (length (lane_list wired given x lane)))
      (empty_part (works_in wired given x) (all_lanes wired) lane (empty_left (flat_map (works_in wired given x) (all_lanes wired)) (flat_map (works_of x) (all_takers wired)) none) h)

  nothing_to_take : (taker : Taker) → Has taker (all_takers wired) → can_take x taker ≡ false
  nothing_to_take taker h = by_test (can_take x taker) refl (empty_part (works_of x) (all_takers wired) taker (empty_right (flat_map (works_in wired given x) (all_lanes wired)) (flat_map (works_of x) (all_takers wired)) none) h)
    where
      by_test : (b : Bool) → can_take x taker ≡ b → (if b then take_one taker.component taker.replica ∷ [] else []) ≡ [] → can_take x taker ≡ false
      by_test true is e = cc
      by_test false is e = is

  -- an instance that isn't Order heard all
  none_undelivered : (c r : ℕ) → r < length (instances_at wired c) → is_sequencer wired c ≡ false → undelivered wired given x c r ≡ 0
  none_undelivered c r within hears =
      sum_nothing (λ place. length (unheard (all_pairs (x.lives c r).last.heard) place.0 (emitted_list wired given x place.1.stream place.1.sender))) (enumerate_from 0 (instance_at wired c r).feeds)
      (λ place h.
      let at = enumerated_at (instance_at wired c r).feeds 0 place h in
      let number : place.0 ≡ at.0 = omega (arith, at.1) in
      all_heard (all_pairs (x.lives c r).last.heard) place.0 (emitted_list wired given x place.1.stream place.1.sender)
      (nothing_open (Deliver c r place.0 place.1) (delivery_stands v valid c r place.0 place.1 within hears (ap (slice_get (instance_at wired c r).feeds) number ∙ at.2))))

  -- the log of an Order component has all
  none_unordered : (c : ℕ) → is_sequencer wired c ≡ true → unordered wired given x c ≡ 0
  none_unordered c order =
      sum_nothing (λ feed. length (filter (λ r. not (list_any (is_same_entry (feed.port, r)) (x.logs c))) (rows_in (emitted_list wired given x feed.stream feed.sender)))) (instance_at wired c 0).feeds
      (λ feed h.
      let at = place_of feed (instance_at wired c 0).feeds h in
      all_logged (x.logs c) feed.port (emitted_list wired given x feed.stream feed.sender) (nothing_open (Order c feed) (ordering_stands v valid c at.0 feed order at.1)))

  none_out : (c : ℕ) → left_out wired given x c ≡ 0
  none_out c = by_test (is_sequencer wired c) refl
    where
      by_test : (b : Bool) → is_sequencer wired c ≡ b → (if b then unordered wired given x c else 0) ≡ 0
      by_test true is = none_unordered c is
      by_test false is = refl

  -- its replicas took all
  none_untaken : (c r : ℕ) → c < length wired.components → r < length (instances_at wired c) → is_sequencer wired c ≡ true → untaken x c r ≡ 0
  none_untaken c r there within order =
      let taker : Taker = record { component = c; replica = r } in
      let all : length (x.logs c) ≤ (x.lives c r).last.taken = ltb-false (x.lives c r).last.taken (length (x.logs c)) (nothing_to_take taker (taker_stands wired c r there (record { order = order; there = within }))) in
      omega (arith, all)

  none_of : (c r : ℕ) → c < length wired.components → r < length (instances_at wired c) → left_of wired given x c r ≡ 0
  none_of c r there within =
      let inside : c < length v.components = component_wired v valid c r within in
      let few : r < replicas_of v c = subst (λ n. r < n) (count_wired v valid c inside) within in
      ap (λ b. if b then untaken x c r else undelivered wired given x c r) (mode_wired v valid c r inside few ∙ sym (order_wired v c valid inside))
      ∙ by_test (is_sequencer wired c) refl
    where
      by_test : (b : Bool) → is_sequencer wired c ≡ b → (if b then untaken x c r else undelivered wired given x c r) ≡ 0
      by_test true is = none_untaken c r there within is
      by_test false is = none_undelivered c r within is

  none_at : (c : ℕ) → c < length wired.components → left_at wired given x c (length (instances_at wired c)) ≡ 0
  none_at c there =
      let rest : sum_by (left_of wired given x c) (range_with_len 0 (length (instances_at wired c))) ≡ 0 =
      sum_nothing (left_of wired given x c) (range_with_len 0 (length (instances_at wired c))) (λ r h. none_of c r there (below_is (length (instances_at wired c)) r h)) in
      omega (arith, none_out c, rest)

  pub nothing_left : left_count wired given x ≡ 0
  nothing_left =
      sum_nothing (λ place. left_at wired given x place.0 (length place.1)) (enumerate_from 0 wired.components)
      (λ place h.
      let at = enumerated_at wired.components 0 place h in
      let number : place.0 ≡ at.0 = omega (arith, at.1) in
      let here : slice_get wired.components place.0 ≡ Some place.1 = ap (slice_get wired.components) number ∙ at.2 in
      let instances : instances_at wired place.0 ≡ place.1 = get_or_from_slice_get wired.components place.0 place.1 [] here in
      ap (λ (l : List Instance). left_at wired given x place.0 (length l)) (sym instances)
      ∙ none_at place.0 (slice_get_within wired.components place.0 place.1 here))
