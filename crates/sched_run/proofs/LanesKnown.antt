-- The lanes of a topology are those of the feeds of its instances and logs, the takers are its Order replicas, and none is left out.
use Rattle.std.proofs.Common.{◌≡◌, ◌<◌, ◌≤◌, ◌+◌, ◌==◌, ℕ, zero, suc, true, false, Some, List, [], ◌∷◌, length, map, get_or, slice_get, refl, ap, ◌∙◌, sym, subst, inl, inr, arith}
use Rattle.std.specs.Prelude.{if◌then◌else◌}
use Rattle.std.specs.List.{enumerate_from, flat_map, range_with_len}
use Rattle.std.proofs.lemmas.Bool.{and_from, and_parts, cases_lt, eq-eqb, eqb-true}
use Rattle.std.proofs.lemmas.List.{get_or_past}
use Rattle.blz_value.specs.Members.{Has}
use Rattle.blz_value.proofs.Membership.{Has-filter, Has-flat_map, Has-from_any, Has-from_filter, Has-from_flat_map, Has-from_map, Has-map}
use Rattle.blz_value.proofs.Options.{Has-slice_get}
use Rattle.blz_value.proofs.Ranges.{is_below, Has-from_below}
use Rattle.topo_forms.specs.Feeds.{Feed}
use Rattle.topo_forms.specs.Valid.{IsValid}
use Rattle.topo_forms.specs.View.{View, End, Stream, ends_of, is_order, is_order_mode, replicas_of, same_end, stream_at}
use Rattle.inbox.specs.Instances.{Instance}
use Rattle.inbox.specs.Wiring.{Wiring, feeds_for, instance_at, instance_for, instances_at, is_sequencer, nobody, wiring_of}
use Rattle.inbox.proofs.WiringLemmas.{IsFeedInto, instance-feeds, instance-wired, instances-wired, length-below, stream-wired}
use Rattle.sched_run.specs.Code.Looking.{IsFeed, IsLane, IsTaker}
use Rattle.sched_run.specs.Made.{all_lanes, all_takers, comes_at, feeds_here, instance_lanes, lanes_at, log_lanes, replicas_at, takers_at}
use Rattle.sched_run.specs.declared.lanes.Lane.{Lane}
use Rattle.sched_run.specs.declared.lanes.Lane.TheVariants.{Deliver, Order}
use Rattle.sched_run.specs.declared.lanes.Taker.{Taker}
use Rattle.sched_run.proofs.LanesLemmas.{feeds_wired, many_wired, order_wired}

-- ---- elements with their numbers

pair_is : {X : Type 0} (m n : ℕ) (x y : X) → m ≡ n → x ≡ y → ◌≡◌ {A = ℕ × X} (m, x) (n, y)
pair_is {X} m n x y p q = let f : ℕ → X → ℕ × X = λ k z. (k, z) in ap (λ k. f k x) p ∙ ap (f n) q

pub enumerated_at : {X : Type 0} (xs : List X) (from : ℕ) (place : ℕ × X) → Has place (enumerate_from from xs) → (k : ℕ) × (from + k ≡ place.0) × (slice_get xs k ≡ Some place.1)
enumerated_at [] from place h = absurd h
enumerated_at {X} (x ∷ xs) from place (inl e) =
    let number : from ≡ place.0 = ap (λ (p : ℕ × X). p.0) e in
    (0, omega (arith, number), ap (λ (p : ℕ × X). Some p.1) e)
enumerated_at (x ∷ xs) from place (inr h) =
    let r = enumerated_at xs (from + 1) place h in
    (suc r.0, omega (arith, r.1), r.2)

pub at_enumerated : {X : Type 0} (xs : List X) (from k : ℕ) (x : X) → slice_get xs k ≡ Some x → Has (from + k, x) (enumerate_from from xs)
at_enumerated [] from k x at = cc
at_enumerated (y ∷ xs) from zero x at =
    let same : y ≡ x = cc in
    let number : from ≡ from + 0 = omega arith in
    inl (pair_is from (from + 0) y x number same)
at_enumerated {X} (y ∷ xs) from (suc k) x at =
    let number : (from + 1) + k ≡ from + suc k = omega arith in
    inr (subst (λ n. Has (n, x) (enumerate_from (from + 1) xs)) number (at_enumerated xs (from + 1) k x at))

pub place_of : {X : Type 0} (x : X) (xs : List X) → Has x xs → (n : ℕ) × (slice_get xs n ≡ Some x)
place_of x [] h = absurd h
place_of x (y ∷ xs) (inl same) = (0, ap (λ z. Some z) same)
place_of x (y ∷ xs) (inr h) = let r = place_of x xs h in (suc r.0, r.1)

-- ---- of any wiring

-- a lane of an instance that isn't Order, and one of a log
pub record DeliversIn (w : Wiring) (component replica number : ℕ) (feed : Feed) : Type 0 where
  pub hears : is_sequencer w component ≡ false
  pub there : replica < length (instances_at w component)
  pub numbered : slice_get (instance_at w component replica).feeds number ≡ Some feed

pub record OrdersIn (w : Wiring) (component : ℕ) (feed : Feed) : Type 0 where
  pub order : is_sequencer w component ≡ true
  pub number : ℕ
  pub numbered : slice_get (instance_at w component 0).feeds number ≡ Some feed

abbrev pub IsLaneIn : Wiring → Lane → Type 0
IsLaneIn w (Deliver component replica number feed) = DeliversIn w component replica number feed
IsLaneIn w (Order component feed) = OrdersIn w component feed

pub record TakesIn (w : Wiring) (taker : Taker) : Type 0 where
  pub order : is_sequencer w taker.component ≡ true
  pub there : taker.replica < length (instances_at w taker.component)

module _ (w : Wiring) where
  -- what stands among the feeds from a stream at a port
  here_is : (s p : ℕ) (feeds : List Feed) (place : ℕ × Feed) → Has place (feeds_here s p feeds) → slice_get feeds place.0 ≡ Some place.1
  here_is s p feeds place h =
      let kept = Has-from_filter (λ (q : ℕ × Feed). comes_at s p q.1) place (enumerate_from 0 feeds) h in
      let at = enumerated_at feeds 0 place kept.0 in
      let number : place.0 ≡ at.0 = omega (arith, at.1) in
      ap (slice_get feeds) number ∙ at.2

  is_here : (s p n : ℕ) (feeds : List Feed) (feed : Feed) → slice_get feeds n ≡ Some feed → feed.stream ≡ s → feed.port ≡ p → Has (n, feed) (feeds_here s p feeds)
  is_here s p n feeds feed at stream port =
      let number : 0 + n ≡ n = omega arith in
      Has-filter (λ (q : ℕ × Feed). comes_at s p q.1) (n, feed) (enumerate_from 0 feeds)
      (subst (λ k. Has (k, feed) (enumerate_from 0 feeds)) number (at_enumerated feeds 0 n feed at))
      (and_from (feed.stream == s) (feed.port == p) (eq-eqb feed.stream s stream) (eq-eqb feed.port p port))

  -- the lanes where a stream leads
  instance_lanes_are : (s c p r : ℕ) (lane : Lane) → is_sequencer w c ≡ false → r < length (instances_at w c) → Has lane (instance_lanes w s c p r) → IsLaneIn w lane
  instance_lanes_are s c p r lane hears there h =
      let make : ℕ × Feed → Lane = λ place. Deliver c r place.0 place.1 in
      let m = Has-from_map make lane (feeds_here s p (instance_at w c r).feeds) h in
      let own : DeliversIn w c r m.0.0 m.0.1 = record { hears = hears; there = there; numbered = here_is s p (instance_at w c r).feeds m.0 m.1 } in
      subst (IsLaneIn w) m.2 own

  log_lanes_are : (s c p : ℕ) (lane : Lane) → is_sequencer w c ≡ true → Has lane (log_lanes w s c p) → IsLaneIn w lane
  log_lanes_are s c p lane order h =
      let make : ℕ × Feed → Lane = λ place. Order c place.1 in
      let m = Has-from_map make lane (feeds_here s p (instance_at w c 0).feeds) h in
      let own : OrdersIn w c m.0.1 = record { order = order; number = m.0.0; numbered = here_is s p (instance_at w c 0).feeds m.0 m.1 } in
      subst (IsLaneIn w) m.2 own

  lanes_at_are : (s : ℕ) (end : End) (lane : Lane) → Has lane (lanes_at w s end) → IsLaneIn w lane
  lanes_at_are s end lane h =
      elim (is_sequencer w end.0) as (λ b. is_sequencer w end.0 ≡ b → Has lane (if b then log_lanes w s end.0 end.1 else flat_map (instance_lanes w s end.0 end.1) (replicas_at w end.0)) → IsLaneIn w lane) [
        | true ↦ λ is g. log_lanes_are s end.0 end.1 lane is g
        | false ↦ λ is g.
            let m = Has-from_flat_map (instance_lanes w s end.0 end.1) lane (replicas_at w end.0) g in
            instance_lanes_are s end.0 end.1 m.0 lane is (Has-from_below (length (instances_at w end.0)) m.0 m.1) m.2
      ] refl h

  pub lanes_in : (lane : Lane) → Has lane (all_lanes w) → IsLaneIn w lane
  lanes_in lane h =
      let a = Has-from_flat_map (λ (place : ℕ × Stream). flat_map (lanes_at w place.0) place.1.to) lane (enumerate_from 0 w.streams) h in
      let b = Has-from_flat_map (lanes_at w a.0.0) lane a.0.1.to a.2 in
      lanes_at_are a.0.0 b.0 lane b.2

  takers_at_are : (c : ℕ) (taker : Taker) → Has taker (takers_at w c) → TakesIn w taker
  takers_at_are c taker h =
      let make : ℕ → Taker = λ r. record { component = c; replica = r } in
      elim (is_sequencer w c) as (λ b. is_sequencer w c ≡ b → Has taker (if b then map make (replicas_at w c) else []) → TakesIn w taker) [
        | true ↦ λ is g.
            let m = Has-from_map make taker (replicas_at w c) g in
            let own : TakesIn w (make m.0) = record { order = is; there = Has-from_below (length (instances_at w c)) m.0 m.1 } in
            subst (TakesIn w) m.2 own
        | false ↦ λ is g. absurd g
      ] refl h

  pub takers_in : (taker : Taker) → Has taker (all_takers w) → TakesIn w taker
  takers_in taker h =
      let a = Has-from_flat_map (takers_at w) taker (range_with_len 0 (length w.components)) h in
      takers_at_are a.0 taker a.2

  -- a lane at an end of a stream
  leads : (s : ℕ) (stream : Stream) (end : End) (lane : Lane) → slice_get w.streams s ≡ Some stream → Has end stream.to → Has lane (lanes_at w s end) → Has lane (all_lanes w)
  leads s stream end lane at to here =
      let number : 0 + s ≡ s = omega arith in
      Has-flat_map (λ (place : ℕ × Stream). flat_map (lanes_at w place.0) place.1.to) (s, stream) lane (enumerate_from 0 w.streams)
      (subst (λ k. Has (k, stream) (enumerate_from 0 w.streams)) number (at_enumerated w.streams 0 s stream at))
      (Has-flat_map (lanes_at w s) end lane stream.to to here)

  -- a feed of an instance that isn't Order is that of a lane
  pub delivery_leads : (s : ℕ) (stream : Stream) (end : End) (r n : ℕ) (feed : Feed) → slice_get w.streams s ≡ Some stream → Has end stream.to → feed.stream ≡ s → feed.port ≡ end.1 → DeliversIn w end.0 r n feed → Has (Deliver end.0 r n feed) (all_lanes w)
  delivery_leads s stream end r n feed at to from_stream from_port delivers =
      let make : ℕ × Feed → Lane = λ place. Deliver end.0 r place.0 place.1 in
      leads s stream end (Deliver end.0 r n feed) at to
      (subst (λ b. Has (Deliver end.0 r n feed) (if b then log_lanes w s end.0 end.1 else flat_map (instance_lanes w s end.0 end.1) (replicas_at w end.0))) (sym delivers.hears)
      (Has-flat_map (instance_lanes w s end.0 end.1) r (Deliver end.0 r n feed) (replicas_at w end.0) (is_below (length (instances_at w end.0)) r delivers.there)
      (Has-map make (n, feed) (feeds_here s end.1 (instance_at w end.0 r).feeds) (is_here s end.1 n (instance_at w end.0 r).feeds feed delivers.numbered from_stream from_port))))

  -- and so is one of a log
  pub ordering_leads : (s : ℕ) (stream : Stream) (end : End) (feed : Feed) → slice_get w.streams s ≡ Some stream → Has end stream.to → feed.stream ≡ s → feed.port ≡ end.1 → OrdersIn w end.0 feed → Has (Order end.0 feed) (all_lanes w)
  ordering_leads s stream end feed at to from_stream from_port orders =
      let make : ℕ × Feed → Lane = λ place. Order end.0 place.1 in
      leads s stream end (Order end.0 feed) at to
      (subst (λ b. Has (Order end.0 feed) (if b then log_lanes w s end.0 end.1 else flat_map (instance_lanes w s end.0 end.1) (replicas_at w end.0))) (sym orders.order)
      (Has-map make (orders.number, feed) (feeds_here s end.1 (instance_at w end.0 0).feeds) (is_here s end.1 orders.number (instance_at w end.0 0).feeds feed orders.numbered from_stream from_port)))

  -- each replica of an Order component is a taker
  pub taker_stands : (c r : ℕ) → c < length w.components → TakesIn w (record { component = c; replica = r }) → Has (record { component = c; replica = r }) (all_takers w)
  taker_stands c r there takes =
      let make : ℕ → Taker = λ q. record { component = c; replica = q } in
      Has-flat_map (takers_at w) c (make r) (range_with_len 0 (length w.components)) (is_below (length w.components) c there)
      (subst (λ b. Has (make r) (if b then map make (replicas_at w c) else [])) (sym takes.order)
      (Has-map make r (replicas_at w c) (is_below (length (instances_at w c)) r takes.there)))

-- ---- of a valid topology

module _ (v : View) (valid : IsValid v) where
  -- a component that has an instance is there
  none_past : (c : ℕ) → length v.components ≤ c → instances_at (wiring_of v) c ≡ []
  none_past c past = get_or_past (wiring_of v).components c [] (let few : length (wiring_of v).components ≤ c = omega (arith, many_wired v) in few)

  pub component_wired : (c r : ℕ) → r < length (instances_at (wiring_of v) c) → c < length v.components
  component_wired c r within = elim (cases_lt c (length v.components)) [
    | inl there ↦ there
    | inr past ↦
        let none : length (instances_at (wiring_of v) c) ≡ 0 = ap (λ (l : List Instance). length l) (none_past c past) in
        absurd (omega (arith, none, within))
  ]

  pub sequencer_wired : (c : ℕ) → is_sequencer (wiring_of v) c ≡ true → c < length v.components
  sequencer_wired c order = elim (cases_lt c (length v.components)) [
    | inl there ↦ there
    | inr past ↦
        let bad : false ≡ true = sym (ap (λ (l : List Instance). is_order_mode (get_or l 0 nobody).mode) (none_past c past)) ∙ order in
        cc
  ]

  pub count_wired : (c : ℕ) → c < length v.components → length (instances_at (wiring_of v) c) ≡ replicas_of v c
  count_wired c there = ap (λ (l : List Instance). length l) (instances-wired v c there) ∙ length-below (instance_for v c) (replicas_of v c)

  -- all its instances are Order where it is
  pub mode_wired : (c r : ℕ) → c < length v.components → r < replicas_of v c → is_order_mode (instance_at (wiring_of v) c r).mode ≡ is_order v c
  mode_wired c r there within = ap (λ (i : Instance). is_order_mode i.mode) (instance-wired v c r there within)

  feed_is : (c r n : ℕ) (feed : Feed) → slice_get (feeds_for v c r) n ≡ Some feed → IsFeedInto v c feed
  feed_is c r n feed at = instance-feeds v c r feed (Has-slice_get (feeds_for v c r) n feed at)

  is_feed : (c : ℕ) (feed : Feed) → c < length v.components → IsFeedInto v c feed → IsFeed v c feed
  is_feed c feed there is = record { there = there; port = is.port; stream = is.stream; sender = is.sender }

  delivery_is : (c r n : ℕ) (feed : Feed) → DeliversIn (wiring_of v) c r n feed → IsLane v (Deliver c r n feed)
  delivery_is c r n feed d =
      let there : c < length v.components = component_wired c r d.there in
      let within : r < replicas_of v c = subst (λ n. r < n) (count_wired c there) d.there in
      let at : slice_get (feeds_for v c r) n ≡ Some feed = ap (λ (l : List Feed). slice_get l n) (sym (feeds_wired v c r there within)) ∙ d.numbered in
      record { is = is_feed c feed there (feed_is c r n feed at); within = within; hears = sym (order_wired v c valid there) ∙ d.hears; numbered = at }

  ordering_is : (c : ℕ) (feed : Feed) → OrdersIn (wiring_of v) c feed → IsLane v (Order c feed)
  ordering_is c feed o =
      let there : c < length v.components = sequencer_wired c o.order in
      let within : 0 < replicas_of v c = omega (arith, (valid.components c there).some_replica) in
      let at : slice_get (feeds_for v c 0) o.number ≡ Some feed = ap (λ (l : List Feed). slice_get l o.number) (sym (feeds_wired v c 0 there within)) ∙ o.numbered in
      record { is = is_feed c feed there (feed_is c 0 o.number feed at); order = sym (order_wired v c valid there) ∙ o.order }

  lane_is : (lane : Lane) → IsLaneIn (wiring_of v) lane → IsLane v lane
  lane_is (Deliver c r n feed) d = delivery_is c r n feed d
  lane_is (Order c feed) o = ordering_is c feed o

  -- each lane is that of a feed of an instance that isn't Order, or of an Order component
  pub lanes_are : (lane : Lane) → Has lane (all_lanes (wiring_of v)) → IsLane v lane
  lanes_are lane h = lane_is lane (lanes_in (wiring_of v) lane h)

  -- each taker is a replica of an Order component
  pub takers_are : (taker : Taker) → Has taker (all_takers (wiring_of v)) → IsTaker v taker
  takers_are taker h =
      let t = takers_in (wiring_of v) taker h in
      let there : taker.component < length v.components = sequencer_wired taker.component t.order in
      record { there = there; within = subst (λ n. taker.replica < n) (count_wired taker.component there) t.there; order = sym (order_wired v taker.component valid there) ∙ t.order }

  -- ---- none is left out

  abbrev EndOf : (c : ℕ) → Feed → Type 0
  EndOf c feed = (end : End) × Has end (ends_of v feed.stream) × (end.0 ≡ c) × (feed.port ≡ end.1)

  end_of : (c : ℕ) (feed : Feed) → IsFeedInto v c feed → EndOf c feed
  end_of c feed is =
      let m = Has-from_any (λ end. same_end (c, feed.port) end) (ends_of v feed.stream) is.goes in
      let both = and_parts (c == m.0.0) (feed.port == m.0.1) m.2 in
      (m.0, m.1, sym (eqb-true c m.0.0 both.0), eqb-true feed.port m.0.1 both.1)

  -- each feed of an instance that isn't Order
  pub delivery_stands : (c r n : ℕ) (feed : Feed) → r < length (instances_at (wiring_of v) c) → is_sequencer (wiring_of v) c ≡ false → slice_get (instance_at (wiring_of v) c r).feeds n ≡ Some feed
      → Has (Deliver c r n feed) (all_lanes (wiring_of v))
  delivery_stands c r n feed within hears at =
      let delivers : DeliversIn (wiring_of v) c r n feed = record { hears = hears; there = within; numbered = at } in
      let there : c < length v.components = component_wired c r within in
      let inside : r < replicas_of v c = subst (λ m. r < m) (count_wired c there) within in
      let is : IsFeedInto v c feed = feed_is c r n feed (ap (λ (l : List Feed). slice_get l n) (sym (feeds_wired v c r there inside)) ∙ at) in
      let e = end_of c feed is in
      subst (λ m. Has (Deliver m r n feed) (all_lanes (wiring_of v))) e.2
      (delivery_leads (wiring_of v) feed.stream (stream_at v feed.stream) e.0 r n feed (stream-wired v feed.stream is.stream) e.1 refl e.3
      (subst (λ m. DeliversIn (wiring_of v) m r n feed) (sym e.2) delivers))

  -- each feed of a log
  pub ordering_stands : (c n : ℕ) (feed : Feed) → is_sequencer (wiring_of v) c ≡ true → slice_get (instance_at (wiring_of v) c 0).feeds n ≡ Some feed → Has (Order c feed) (all_lanes (wiring_of v))
  ordering_stands c n feed order at =
      let orders : OrdersIn (wiring_of v) c feed = record { order = order; number = n; numbered = at } in
      let there : c < length v.components = sequencer_wired c order in
      let inside : 0 < replicas_of v c = omega (arith, (valid.components c there).some_replica) in
      let is : IsFeedInto v c feed = feed_is c 0 n feed (ap (λ (l : List Feed). slice_get l n) (sym (feeds_wired v c 0 there inside)) ∙ at) in
      let e = end_of c feed is in
      subst (λ m. Has (Order m feed) (all_lanes (wiring_of v))) e.2
      (ordering_leads (wiring_of v) feed.stream (stream_at v feed.stream) e.0 feed (stream-wired v feed.stream is.stream) e.1 refl e.3
      (subst (λ m. OrdersIn (wiring_of v) m feed) (sym e.2) orders))
