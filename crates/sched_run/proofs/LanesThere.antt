-- Each lane of a topology is one of its feeds, and each taker a replica of an Order component.
use Rattle.std.proofs.Common.{◌≡◌, ◌<◌, ◌+◌, ◌∷◌, ℕ, suc, Bool, true, false, Some, List, [], length, map, get_or, slice_get, refl, ap, ◌∙◌, sym, subst, inl, inr, arith, add-zero}
use Rattle.std.specs.Prelude.{if◌then◌else◌}
use Rattle.std.specs.List.{All, enumerate_from, flat_map}
use Rattle.std.proofs.lemmas.Option.{get_or_from_slice_get, slice_get_within}
use Rattle.blz_value.specs.Members.{Has}
use Rattle.blz_value.proofs.Membership.{Has-get_or, Has-from_filter, Has-from_flat_map, Has-from_map}
use Rattle.topo_forms.specs.Feeds.{Feed}
use Rattle.blz_value.specs.NumberSets.{below}
use Rattle.blz_value.proofs.Ranges.{Has-below}
use Rattle.topo_forms.specs.Valid.{IsValid}
use Rattle.topo_forms.specs.View.{View, End, Stream, no_stream, replicas_of, is_order}
use Rattle.inbox.specs.Wiring.{Wiring, feeds_for, instance_at, is_sequencer, wiring_of}
use Rattle.inbox.proofs.WiringLemmas.{instance-feeds}
use Rattle.sched_run.specs.Made.{comes_at, feeds_here, instance_lanes, log_lanes, lanes_at, all_lanes, replicas_at, takers_at, all_takers}
use Rattle.sched_run.specs.Code.Looking.{IsFeed, IsDelivery, IsOrdering, IsLane, IsTaker}
use Rattle.sched_run.specs.declared.lanes.Lane.{Lane}
use Rattle.sched_run.specs.declared.lanes.Lane.TheVariants.{Deliver, Order}
use Rattle.sched_run.specs.declared.lanes.Taker.{Taker}
use Rattle.sched_run.proofs.LanesLemmas.{streams_wired, many_wired, replicas_wired, feeds_wired, order_wired}

-- a numbered element stands at its number
from_enumerated : {X : Type 0} (n : ℕ) (xs : List X) (place : ℕ × X) → Has place (enumerate_from n xs) → (k : ℕ) × (place.0 ≡ n + k) × (slice_get xs k ≡ Some place.1)
from_enumerated n [] place h = absurd h
from_enumerated {X} n (x ∷ xs) place (inl same) = (0, sym (ap (λ (p : ℕ × X). p.0) same) ∙ sym (add-zero n), ap Some (ap (λ (p : ℕ × X). p.1) same))
from_enumerated n (x ∷ xs) place (inr h) =
    let later = from_enumerated (n + 1) xs place h in (
      suc later.0,
      (let e : place.0 ≡ n + suc later.0 = omega (arith, later.1) in e),
      later.2,
    )

at_number : {X : Type 0} (xs : List X) (place : ℕ × X) → Has place (enumerate_from 0 xs) → slice_get xs place.0 ≡ Some place.1
at_number xs place h =
    let at = from_enumerated 0 xs place h in
    ap (slice_get xs) (let e : place.0 ≡ at.0 = omega (arith, at.1) in e) ∙ at.2

module _ (v : View) (valid : IsValid v) where
  abbrev w : Wiring
  w = wiring_of v

  -- ---- lanes

  feed_there : (c r : ℕ) (feed : Feed) → c < length v.components → r < replicas_of v c → Has feed (feeds_for v c r) → IsFeed v c feed
  feed_there c r feed there within h =
      let into = instance-feeds v c r feed h in
      record { there = there; port = into.port; stream = into.stream; sender = into.sender }

  -- a feed with its number
  here : (s p c r : ℕ) (place : ℕ × Feed) → c < length v.components → r < replicas_of v c → Has place (feeds_here s p (instance_at w c r).feeds) → slice_get (feeds_for v c r) place.0 ≡ Some place.1
  here s p c r place there within h =
      let own : Has place (enumerate_from 0 (instance_at w c r).feeds) = (Has-from_filter (λ (n : ℕ × Feed). comes_at s p n.1) place (enumerate_from 0 (instance_at w c r).feeds) h).0 in
      subst (λ (fs : List Feed). slice_get fs place.0 ≡ Some place.1) (feeds_wired v c r there within) (at_number (instance_at w c r).feeds place own)

  has_feed : (c r : ℕ) (place : ℕ × Feed) → slice_get (feeds_for v c r) place.0 ≡ Some place.1 → Has place.1 (feeds_for v c r)
  has_feed c r place at =
      subst (λ f. Has f (feeds_for v c r)) (get_or_from_slice_get (feeds_for v c r) place.0 place.1 place.1 at) (Has-get_or (feeds_for v c r) place.0 place.1 (slice_get_within (feeds_for v c r) place.0 place.1 at))

  instance_lane : (s c p r : ℕ) (lane : Lane) → c < length v.components → r < replicas_of v c → is_order v c ≡ false → Has lane (instance_lanes w s c p r) → IsLane v lane
  instance_lane s c p r lane there within free h =
      let from = Has-from_map (λ (place : ℕ × Feed). Deliver c r place.0 place.1) lane (feeds_here s p (instance_at w c r).feeds) h in
      let at = here s p c r from.0 there within from.1 in
      let is : IsDelivery v c r from.0.0 from.0.1 = record {
        is = feed_there c r from.0.1 there within (has_feed c r from.0 at);
        within = within;
        hears = free;
        numbered = at;
      } in
      subst (IsLane v) from.2 is

  log_lane : (s c p : ℕ) (lane : Lane) → c < length v.components → is_order v c ≡ true → Has lane (log_lanes w s c p) → IsLane v lane
  log_lane s c p lane there order h =
      let from = Has-from_map (λ (place : ℕ × Feed). Order c place.1) lane (feeds_here s p (instance_at w c 0).feeds) h in
      let first : 0 < replicas_of v c = omega (arith, (valid.components c there).some_replica) in
      let at = here s p c 0 from.0 there first from.1 in
      let is : IsOrdering v c from.0.1 = record { is = feed_there c 0 from.0.1 there first (has_feed c 0 from.0 at); order = order } in
      subst (IsLane v) from.2 is

  end_lane : (s : ℕ) (end : End) (lane : Lane) → end.0 < length v.components → Has lane (lanes_at w s end) → IsLane v lane
  end_lane s end lane there h = by_mode (is_sequencer w end.0) refl h
    where
      by_mode : (b : Bool) → is_sequencer w end.0 ≡ b → Has lane (if b then log_lanes w s end.0 end.1 else flat_map (instance_lanes w s end.0 end.1) (replicas_at w end.0)) → IsLane v lane
      by_mode true e own = log_lane s end.0 end.1 lane there (sym (order_wired v end.0 valid there) ∙ e) own
      by_mode false e own =
          let from = Has-from_flat_map (instance_lanes w s end.0 end.1) lane (replicas_at w end.0) own in
          let within : from.0 < replicas_of v end.0 = Has-below (replicas_of v end.0) from.0 (subst (Has from.0) (replicas_wired v end.0 there) from.1) in
          instance_lane s end.0 end.1 from.0 lane there within (sym (order_wired v end.0 valid there) ∙ e) from.2

  lane_there : (lane : Lane) → Has lane (all_lanes w) → IsLane v lane
  lane_there lane h =
      let from = Has-from_flat_map (λ (place : ℕ × Stream). flat_map (lanes_at w place.0) place.1.to) lane (enumerate_from 0 w.streams) h in
      let at : slice_get v.streams from.0.0 ≡ Some from.0.1 = subst (λ (streams : List Stream). slice_get streams from.0.0 ≡ Some from.0.1) (streams_wired v) (at_number w.streams from.0 from.1) in
      let there : from.0.0 < length v.streams = slice_get_within v.streams from.0.0 from.0.1 at in
      let line = get_or_from_slice_get v.streams from.0.0 from.0.1 no_stream at in
      let end = Has-from_flat_map (lanes_at w from.0.0) lane from.0.1.to from.2 in
      let inside = valid.numbered.ends from.0.0 end.0 there (subst (λ (x : Stream). Has end.0 x.to) (sym line) end.1) in
      end_lane from.0.0 end.0 lane inside.0 end.2

  -- ---- takers

  component_taker : (c : ℕ) (taker : Taker) → c < length v.components → Has taker (takers_at w c) → IsTaker v taker
  component_taker c taker there h = by_mode (is_sequencer w c) refl h
    where
      by_mode : (b : Bool) → is_sequencer w c ≡ b → Has taker (if b then map (λ replica. record { component = c; replica = replica }) (replicas_at w c) else []) → IsTaker v taker
      by_mode true e own =
          let from = Has-from_map (λ (replica : ℕ). record { component = c; replica = replica }) taker (replicas_at w c) own in
          let within : from.0 < replicas_of v c = Has-below (replicas_of v c) from.0 (subst (Has from.0) (replicas_wired v c there) from.1) in
          let is : IsTaker v (record { component = c; replica = from.0 }) = record { there = there; within = within; order = sym (order_wired v c valid there) ∙ e } in
          subst (IsTaker v) from.2 is
      by_mode false e own = absurd own

  taker_there : (taker : Taker) → Has taker (all_takers w) → IsTaker v taker
  taker_there taker h =
      let from = Has-from_flat_map (takers_at w) taker (below (length w.components)) h in
      let there : from.0 < length v.components = omega (arith, Has-below (length w.components) from.0 from.1, many_wired v) in
      component_taker from.0 taker there from.2

-- ---- all of them

pub lanes_there : (v : View) (lanes : List Lane) → IsValid v → lanes ≡ all_lanes (wiring_of v) → All (IsLane v) lanes
lanes_there v lanes valid are k d within = lane_there v valid (get_or lanes k d) (subst (Has (get_or lanes k d)) are (Has-get_or lanes k d within))

pub takers_there : (v : View) (takers : List Taker) → IsValid v → takers ≡ all_takers (wiring_of v) → All (IsTaker v) takers
takers_there v takers valid are k d within = taker_there v valid (get_or takers k d) (subst (Has (get_or takers k d)) are (Has-get_or takers k d within))
