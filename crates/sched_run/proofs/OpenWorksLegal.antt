-- Each open work is a legal event, and one that isn't a take is legal once more after itself.
--
-- A work of a lane is of a message that stands in the lane's list, and the lane's feed is one of the instance or log to which
-- it comes. Lists only grow, so the message stands there after the event too.
use Rattle.std.proofs.Common.{◌≡◌, ◌<◌, ◌+◌, ◌==◌, ◌&&◌, not, nat_lt, ℕ, suc, Bool, true, false, cond, None, Some, List, [], ◌∷◌, length, get_or, slice_get, refl, ap, ◌∙◌, sym, subst, inl, inr, arith}
use Rattle.std.specs.Prelude.{Ok, Err, if◌then◌else◌}
use Rattle.std.specs.List.{flat_map, position, position_or_len, range_with_len}
use Rattle.std.proofs.lemmas.Bool.{and_from, eq-eqb, lt-ltb}
use Rattle.std.proofs.lemmas.Option.{slice_get-get_or, slice_get_within}
use Rattle.blz_value.specs.Members.{Has}
use Rattle.blz_value.proofs.Membership.{Has-append_cases, Has-from_filter, Has-from_flat_map, Has-from_map}
use Rattle.blz_value.proofs.Options.{Has-slice_get as stands_at}
use Rattle.blz_value.proofs.Ranges.{Has-from_below as below_is}
use Rattle.blz_value.proofs.Lists.{Has-take}
use Rattle.topo_forms.specs.Data.{Data}
use Rattle.topo_forms.specs.Feeds.{Feed}
use Rattle.topo_forms.specs.Messages.{Message, row}
use Rattle.topo_forms.specs.Valid.{IsValid}
use Rattle.topo_forms.specs.View.{View, is_order_mode}
use Rattle.messages.specs.Messages.{Pair}
use Rattle.inbox.specs.Instances.{Instance}
use Rattle.inbox.specs.Wiring.{Wiring, instance_at, instances_at, is_sequencer, is_there, wiring_of}
use Rattle.inbox.specs.Lives.{hear_batch, take_entry}
use Rattle.inbox.specs.Events.{Part, Event, deliver, batch, order, take_one, Step, event, no_instance, nothing_to_take}
use Rattle.inbox.specs.Executions.{Execution, after_event, after_hearing, after_taking, emitted_list, execution_of, is_hearing, message_of, pair_of, pair_with, pairs_of, result_and_then, with_lives, with_logged}
use Rattle.inbox.specs.Growth.{IsExtendedBy}
use Rattle.inbox.proofs.Executions.Lengthening.{history_grows}
use Rattle.inbox.proofs.Executions.Results.{and_then_Ok, if_Ok}
use Rattle.inbox.proofs.Executions.Sent.{pair_of-is}
use Rattle.sched_turns.specs.Windows.{first_open, open_below}
use Rattle.sched_run.specs.Made.{all_lanes, all_takers, can_take, event_in, is_open_in, is_take, lane_list, open_works, part_on, works_in, works_of}
use Rattle.sched_run.specs.declared.lanes.Lane.{Lane}
use Rattle.sched_run.specs.declared.lanes.Lane.TheVariants.{Deliver, Order}
use Rattle.sched_run.specs.declared.lanes.Taker.{Taker}
use Rattle.sched_run.specs.Code.Looking.{IsLane, IsTaker}
use Rattle.sched_run.proofs.FrontsLemmas.{front_get}
use Rattle.sched_run.proofs.LanesKnown.{IsLaneIn, TakesIn, lanes_in, takers_in, lanes_are, takers_are, mode_wired}

-- ---- what an open work is

-- a work of a lane or of a taker
pub data IsOpenWork (w : Wiring) (given : Data) (x : Execution) (e : Event) : Type 0 where
  on_lane : (lane : Lane) (index : ℕ) → Has lane (all_lanes w) → index < length (lane_list w given x lane) → is_open_in w given x lane index ≡ true → event_in lane index ≡ e → IsOpenWork w given x e
  by_taker : (taker : Taker) → Has taker (all_takers w) → can_take x taker ≡ true → take_one taker.component taker.replica ≡ e → IsOpenWork w given x e

-- the first open indexes are open
first_are_open : (is_open : ℕ → Bool) (count index : ℕ) → Has index (first_open is_open count) → Has index (open_below is_open count)
first_are_open is_open count index h = Has-take 8 index (open_below is_open count) h

module _ (w : Wiring) (given : Data) (x : Execution) where
  -- the works of a lane
  pub lane_work : (lane : Lane) (e : Event) → Has e (works_in w given x lane) → (index : ℕ) × (index < length (lane_list w given x lane)) × (is_open_in w given x lane index ≡ true) × (event_in lane index ≡ e)
  lane_work lane e h =
      let m = Has-from_map (event_in lane) e (first_open (is_open_in w given x lane) (length (lane_list w given x lane))) h in
      let kept = Has-from_filter (is_open_in w given x lane) m.0 (range_with_len 0 (length (lane_list w given x lane)))
      (first_are_open (is_open_in w given x lane) (length (lane_list w given x lane)) m.0 m.1) in
      (m.0, below_is (length (lane_list w given x lane)) m.0 kept.0, kept.1, m.2)

  taker_work : (taker : Taker) (e : Event) (b : Bool) → can_take x taker ≡ b → Has e (if b then take_one taker.component taker.replica ∷ [] else []) → (can_take x taker ≡ true) × (take_one taker.component taker.replica ≡ e)
  taker_work taker e true is (inl same) = (is, same)
  taker_work taker e true is (inr none) = absurd none
  taker_work taker e false is h = absurd h

  pub open_work : (e : Event) → Has e (open_works w given x) → IsOpenWork w given x e
  open_work e h = elim (Has-append_cases e (flat_map (works_in w given x) (all_lanes w)) (flat_map (works_of x) (all_takers w)) h) [
    | inl lanes ↦
        let a = Has-from_flat_map (works_in w given x) e (all_lanes w) lanes in
        let b = lane_work a.0 e a.2 in
        on_lane a.0 b.0 a.1 b.1 b.2 b.3
    | inr takers ↦
        let a = Has-from_flat_map (works_of x) e (all_takers w) takers in
        let b = taker_work a.0 e (can_take x a.0) refl a.2 in
        by_taker a.0 a.1 b.0 b.1
  ]

-- ---- what makes an event legal

module _ (w : Wiring) (given : Data) (x : Execution) where
  -- the pairs are there
  pub hearing_legal : (parts : List Part) (component replica : ℕ) (pairs : List Pair) → is_hearing w component replica parts ≡ true → pairs_of w given x (instance_at w component replica) parts ≡ Ok pairs
      → after_hearing w given parts component replica x ≡ Ok (with_lives component replica (hear_batch pairs) x)
  hearing_legal parts component replica pairs hearing are =
      ap (λ b. if b then result_and_then (pairs_of w given x (instance_at w component replica) parts) (λ ps. Ok (with_lives component replica (hear_batch ps) x)) else Err no_instance) hearing
      ∙ ap (λ r. result_and_then r (λ ps. Ok (with_lives component replica (hear_batch ps) x))) are

  pub ordering_legal : (part : Part) (component : ℕ) (pair : Pair) → is_sequencer w component ≡ true → pair_of w given x (instance_at w component 0) part ≡ Ok pair
      → after_event w given (order part component) x ≡ Ok (with_logged component part.port pair.1 x)
  ordering_legal part component pair sequencer is =
      ap (λ b. if b then result_and_then (pair_of w given x (instance_at w component 0) part) (λ p. Ok (with_logged component part.port p.1 x)) else Err no_instance) sequencer
      ∙ ap (λ r. result_and_then r (λ (p : Pair). Ok (with_logged component part.port p.1 x))) is

  pub taking_legal : (component replica : ℕ) → is_there w component replica ≡ true → is_order_mode (instance_at w component replica).mode ≡ true → nat_lt (x.lives component replica).last.taken (length (x.logs component)) ≡ true
      → after_event w given (take_one component replica) x ≡ Ok (with_lives component replica take_entry x)
  taking_legal component replica there order_mode more =
      ap (λ b. if b then after_taking component replica x else Err no_instance) (and_from (is_there w component replica) (is_order_mode (instance_at w component replica).mode) there order_mode)
      ∙ ap (λ b. if b then Ok (with_lives component replica take_entry x) else Err nothing_to_take) more

  -- one part
  pub pairs_one : (i : Instance) (part : Part) (pair : Pair) → pair_of w given x i part ≡ Ok pair → pairs_of w given x i (part ∷ []) ≡ Ok (pair ∷ [])
  pairs_one i part pair is = ap (λ r. result_and_then r (λ (p : Pair). result_and_then (pairs_of w given x i []) (λ ps. Ok (p ∷ ps)))) is

  -- a feed of an instance is found, and its message
  pub part_found : (i : Instance) (number index : ℕ) (feed : Feed) → slice_get i.feeds number ≡ Some feed → index < length (emitted_list w given x feed.stream feed.sender) → (pair : Pair) × (pair_of w given x i (part_on feed index) ≡ Ok pair)
  part_found i number index feed at within =
      let list : List Message = emitted_list w given x feed.stream feed.sender in
      let message : Message = get_or list index (row []) in
      let test : Feed → Bool = λ f. f.port == feed.port && (f.stream == feed.stream && f.sender == feed.sender) in
      let passes : test feed ≡ true =
      and_from (feed.port == feed.port) (feed.stream == feed.stream && feed.sender == feed.sender) (eq-eqb feed.port feed.port refl)
      (and_from (feed.stream == feed.stream) (feed.sender == feed.sender) (eq-eqb feed.stream feed.stream refl) (eq-eqb feed.sender feed.sender refl)) in
      let short : position_or_len test i.feeds < length i.feeds = is_found test i.feeds feed (stands_at i.feeds number feed at) passes in
      let found : position test i.feeds ≡ Some (position_or_len test i.feeds) = ap (λ b. cond b (Some (position_or_len test i.feeds)) None) (lt-ltb (position_or_len test i.feeds) (length i.feeds) short) in (
        (position_or_len test i.feeds, message),
        ap (λ f. pair_with f (message_of w given x (part_on feed index).sent)) found
            ∙ ap (pair_with (Some (position_or_len test i.feeds))) (slice_get-get_or list index (row []) within),
      )
    where
      is_found : {X : Type 0} (test : X → Bool) (xs : List X) (q : X) → Has q xs → test q ≡ true → position_or_len test xs < length xs
      is_found test [] q h is = absurd h
      is_found test (y ∷ xs) q h is = elim (test y) as (λ b. test y ≡ b → cond (not b) (1 + position_or_len test xs) 0 < suc (length xs)) [
        | true ↦ λ e. omega arith
        | false ↦ λ e. elim h [
          | inl same ↦ (let bad : false ≡ true = sym e ∙ ap test same ∙ is in cc)
          | inr rest ↦ (let on = is_found test xs q rest is in omega (arith, on))
        ]
      ] refl

-- ---- legal once more

-- a part that is there is there later
pub pair_later : (w : Wiring) (given : Data) (x y : Execution) (i : Instance) (part : Part) (pair : Pair) → IsExtendedBy w given x y → pair_of w given x i part ≡ Ok pair → pair_of w given y i part ≡ Ok pair
pair_later w given x y i part pair grows is =
    let both = pair_of-is w given x i part pair is in
    let before : List Message = emitted_list w given x part.sent.stream part.sent.replica in
    let after : List Message = emitted_list w given y part.sent.stream part.sent.replica in
    let later : message_of w given y part.sent ≡ Some pair.1 = front_get before after part.sent.index (grows.lists part.sent.stream part.sent.replica) (slice_get_within before part.sent.index pair.1 both.message) ∙ both.message in
    ap (λ f. pair_with f (message_of w given y part.sent)) both.feed ∙ ap (pair_with (Some pair.0)) later

pub pairs_later : (w : Wiring) (given : Data) (x y : Execution) (i : Instance) (parts : List Part) (pairs : List Pair) → IsExtendedBy w given x y → pairs_of w given x i parts ≡ Ok pairs → pairs_of w given y i parts ≡ Ok pairs
pairs_later w given x y i [] pairs grows are = are
pairs_later w given x y i (part ∷ parts) pairs grows are =
    let a = and_then_Ok (pair_of w given x i part) (λ p. result_and_then (pairs_of w given x i parts) (λ ps. Ok (p ∷ ps))) pairs are in
    let b = and_then_Ok (pairs_of w given x i parts) (λ ps. Ok (a.0 ∷ ps)) pairs a.2 in
    ap (λ r. result_and_then r (λ p. result_and_then (pairs_of w given y i parts) (λ ps. Ok (p ∷ ps)))) (pair_later w given x y i part a.0 grows a.1)
    ∙ ap (λ r. result_and_then r (λ ps. Ok (a.0 ∷ ps))) (pairs_later w given x y i parts b.0 grows b.1)
    ∙ b.2

module _ (w : Wiring) (given : Data) (x y : Execution) (grows : IsExtendedBy w given x y) where
  abbrev IsLegal : Event → Type 0
  IsLegal e = (z : Execution) × (after_event w given e y ≡ Ok z)

  hearing_later : (parts : List Part) (component replica : ℕ) (z : Execution) → after_hearing w given parts component replica x ≡ Ok z → (u : Execution) × (after_hearing w given parts component replica y ≡ Ok u)
  hearing_later parts component replica z at =
      let a = if_Ok (is_hearing w component replica parts) (result_and_then (pairs_of w given x (instance_at w component replica) parts) (λ pairs. Ok (with_lives component replica (hear_batch pairs) x))) no_instance z at in
      let b = and_then_Ok (pairs_of w given x (instance_at w component replica) parts) (λ pairs. Ok (with_lives component replica (hear_batch pairs) x)) z a.1 in
      (with_lives component replica (hear_batch b.0) y, hearing_legal w given y parts component replica b.0 a.0 (pairs_later w given x y (instance_at w component replica) parts b.0 grows b.1))

  -- an event that isn't a take is legal later too
  pub legal_later : (e : Event) (z : Execution) → is_take e ≡ false → after_event w given e x ≡ Ok z → IsLegal e
  legal_later (deliver part component replica) z other at = hearing_later (part ∷ []) component replica z at
  legal_later (batch parts component replica) z other at = hearing_later parts component replica z at
  legal_later (order part component) z other at =
      let a = if_Ok (is_sequencer w component) (result_and_then (pair_of w given x (instance_at w component 0) part) (λ pair. Ok (with_logged component part.port pair.1 x))) no_instance z at in
      let b = and_then_Ok (pair_of w given x (instance_at w component 0) part) (λ pair. Ok (with_logged component part.port pair.1 x)) z a.1 in
      (with_logged component part.port b.0.1 y, ordering_legal w given y part component b.0 a.0 (pair_later w given x y (instance_at w component 0) part b.0 grows b.1))
  legal_later (take_one component replica) z other at = absurd (no_take other)
    where
      no_take : true ≡ false → ⊥
      no_take bad = cc

-- so it is once more after itself
pub legal_again : (w : Wiring) (given : Data) (steps : List Step) (e : Event) (x y : Execution) → execution_of w given steps ≡ Ok x → is_take e ≡ false → after_event w given e x ≡ Ok y → (z : Execution) × (after_event w given e y ≡ Ok z)
legal_again w given steps e x y legal other at = legal_later w given x y (history_grows w given steps (event e) x y legal at) e y other at

-- ---- the open works

module _ (v : View) (valid : IsValid v) (given : Data) (x : Execution) where
  lane_legal : (lane : Lane) (index : ℕ) → IsLaneIn (wiring_of v) lane → IsLane v lane → index < length (lane_list (wiring_of v) given x lane) → (y : Execution) × (after_event (wiring_of v) given (event_in lane index) x ≡ Ok y)
  lane_legal (Deliver c r n feed) index here lane within =
      let w : Wiring = wiring_of v in
      let found = part_found w given x (instance_at w c r) n index feed here.numbered within in
      let there : is_there w c r ≡ true = lt-ltb r (length (instances_at w c)) here.there in
      let hears : not (is_order_mode (instance_at w c r).mode) ≡ true = ap not (mode_wired v valid c r lane.is.there lane.within ∙ lane.hears) in (
        with_lives c r (hear_batch (found.0 ∷ [])) x,
        hearing_legal w given x (part_on feed index ∷ []) c r (found.0 ∷ []) (and_from (is_there w c r) (not (is_order_mode (instance_at w c r).mode)) there hears) (pairs_one w given x (instance_at w c r) (part_on feed index) found.0 found.1),
      )
  lane_legal (Order c feed) index here lane within =
      let w : Wiring = wiring_of v in
      let found = part_found w given x (instance_at w c 0) here.number index feed here.numbered within in
      (with_logged c feed.port found.0.1 x, ordering_legal w given x (part_on feed index) c found.0 here.order found.1)

  taker_legal : (taker : Taker) → TakesIn (wiring_of v) taker → IsTaker v taker → can_take x taker ≡ true → (y : Execution) × (after_event (wiring_of v) given (take_one taker.component taker.replica) x ≡ Ok y)
  taker_legal taker here is can =
      let w : Wiring = wiring_of v in
      let c : ℕ = taker.component in
      let r : ℕ = taker.replica in
      (with_lives c r take_entry x, taking_legal w given x c r (lt-ltb r (length (instances_at w c)) here.there) (mode_wired v valid c r is.there is.within ∙ is.order) can)

  pub work_legal : (e : Event) → IsOpenWork (wiring_of v) given x e → (y : Execution) × (after_event (wiring_of v) given e x ≡ Ok y)
  work_legal e (on_lane lane index has within is_open is) =
      subst (λ d. (y : Execution) × (after_event (wiring_of v) given d x ≡ Ok y)) is (lane_legal lane index (lanes_in (wiring_of v) lane has) (lanes_are v valid lane has) within)
  work_legal e (by_taker taker has can is) =
      subst (λ d. (y : Execution) × (after_event (wiring_of v) given d x ≡ Ok y)) is (taker_legal taker (takers_in (wiring_of v) taker has) (takers_are v valid taker has) can)

  -- each open work is legal
  pub open_legal : (e : Event) → Has e (open_works (wiring_of v) given x) → (y : Execution) × (after_event (wiring_of v) given e x ≡ Ok y)
  open_legal e h = work_legal e (open_work (wiring_of v) given x e h)
