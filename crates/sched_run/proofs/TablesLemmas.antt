-- Tables of the places at which a work may close and open others, made lane by lane and taker by taker.
use Rattle.std.proofs.Common.{◌≡◌, ◌≢◌, ◌<◌, ◌+◌, ◌*◌, ◌++◌, ◌∷◌, ◌∙◌, ℕ, zero, suc, Option, None, Some, List, [], length, get_or, set, slice_get, replicate, refl, ap, sym, subst, inl, inr, arith}
use Rattle.std.proofs.lemmas.Bool.{cases_eq}
use Rattle.std.proofs.lemmas.List.{get_or-set_other, get_or-set_same, length-set, length-replicate, get_or-replicate}
use Rattle.std.proofs.lemmas.Option.{slice_get_within}
use Rattle.blz_value.specs.Members.{Has}
use Rattle.blz_value.proofs.Membership.{Has-append_cases, Has-append_left, Has-append_right}
use Rattle.topo_forms.specs.Bounded.{IsBounded}
use Rattle.topo_forms.specs.Feeds.{Feed}
use Rattle.topo_forms.specs.Valid.{IsValid}
use Rattle.topo_forms.specs.View.{View, End, component_at, origin_of, replicas_of, senders_of, stream_replicas}
use Rattle.inbox.specs.Places.{instance_count, instance_place}
use Rattle.inbox.proofs.PlacesLemmas.{place-before}
use Rattle.sched_run.specs.Made.{lane_feed}
use Rattle.sched_run.specs.Code.Looking.{IsLane}
use Rattle.sched_run.specs.Code.Watch.{AreBelow, AreHeardBelow, AreLanesBelow, AreReadersBelow, AreTablesOf, AreTakersBelow, HaveCounts, closing_places, heard_at, port_place}
use Rattle.sched_run.specs.declared.lanes.Lane.{Lane}
use Rattle.sched_run.specs.declared.lanes.Lane.TheVariants.{Deliver, Order}
use Rattle.sched_run.specs.declared.lanes.Taker.{Taker}
use Rattle.sched_run.specs.declared.tables.Tables.{Tables}
use Rattle.sched_run.specs.declared.works.Work.{Work}
use Rattle.sched_run.specs.declared.works.Work.TheVariants.{Message}
use Rattle.sched_run.specs.declared.works.Works.{Works}

-- ---- lists of places

-- a place that comes to one of some lists
module _ (old new : List (List ℕ)) (number place : ℕ) (there : number < length old) (becomes : new ≡ set old number (get_or old number [] ++ place ∷ [])) where
  at_number : get_or new number [] ≡ get_or old number [] ++ place ∷ []
  at_number = ap (λ (l : List (List ℕ)). get_or l number []) becomes ∙ get_or-set_same old number (get_or old number [] ++ place ∷ []) [] there

  at_other : (m : ℕ) → m ≢ number → get_or new m [] ≡ get_or old m []
  at_other m differ = ap (λ (l : List (List ℕ)). get_or l m []) becomes ∙ get_or-set_other old number m (get_or old number [] ++ place ∷ []) [] differ

  pub added_count : length new ≡ length old
  added_count = ap (λ (l : List (List ℕ)). length l) becomes ∙ length-set old number (get_or old number [] ++ place ∷ [])

  pub added_has : Has place (get_or new number [])
  added_has = subst (Has place) (sym at_number) (Has-append_right place (get_or old number []) (place ∷ []) (inl refl))

  pub added_stays : (m p : ℕ) → Has p (get_or old m []) → Has p (get_or new m [])
  added_stays m p h = elim (cases_eq m number) [
    | inl same ↦
        subst (λ k. Has p (get_or new k [])) (sym same)
        (subst (Has p) (sym at_number) (Has-append_left p (get_or old number []) (place ∷ []) (subst (λ k. Has p (get_or old k [])) same h)))
    | inr differ ↦ subst (Has p) (sym (at_other m differ)) h
  ]

  pub added_below : (most : ℕ) → AreBelow most old → place < most → AreBelow most new
  added_below most below within m p h = elim (cases_eq m number) [
    | inl same ↦ elim (Has-append_cases p (get_or old number []) (place ∷ []) (subst (Has p) at_number (subst (λ k. Has p (get_or new k [])) same h))) [
      | inl before ↦ below number p before
      | inr last ↦ elim last [ inl is ↦ subst (λ k. k < most) is within | inr none ↦ absurd none ]
    ]
    | inr differ ↦ below m p (subst (Has p) (at_other m differ) h)
  ]

-- ---- places of instances

pub instance_inside : (v : View) (c r : ℕ) → c < length v.components → r < replicas_of v c → instance_place v c r < instance_count v
instance_inside v c r there within = place-before (replicas_of v) c r (length v.components) within there

-- the instance that sends on a lane
pub sender_inside : (v : View) (lane : Lane) (c o : ℕ) → IsValid v → IsLane v lane → origin_of v (lane_feed lane).stream ≡ Some (c, o) → instance_place v c (lane_feed lane).sender < instance_count v
sender_inside v lane c o valid is origin =
    let feed = feed_is lane is in
    instance_inside v c (lane_feed lane).sender (valid.numbered.origins (lane_feed lane).stream (c, o) feed.0 origin).0
    (subst (λ (from : Option End). (lane_feed lane).sender < senders_of v from) origin feed.1)
  where
    feed_is : (l : Lane) → IsLane v l → ((lane_feed l).stream < length v.streams) × ((lane_feed l).sender < stream_replicas v (lane_feed l).stream)
    feed_is (Deliver d r n feed) d_is = (d_is.is.stream, d_is.is.sender)
    feed_is (Order d feed) d_is = (d_is.is.stream, d_is.is.sender)

-- ---- empty lists

none_listed : (count number : ℕ) → get_or (replicate {A = List ℕ} count []) number [] ≡ []
none_listed zero number = refl
none_listed (suc count) zero = refl
none_listed (suc count) (suc number) = none_listed count number

none_heard : (instances streams instance stream : ℕ) → heard_at (replicate instances (replicate streams [])) instance stream ≡ []
none_heard zero streams instance stream = refl
none_heard (suc instances) streams zero stream = none_listed streams stream
none_heard (suc instances) streams (suc instance) stream = none_heard instances streams instance stream

-- among no lanes there is none on which anything is heard
pub heard_none : (v : View) (lanes : List Lane) (heard : List (List (List ℕ))) (instances streams : ℕ) → heard ≡ replicate instances (replicate streams []) → instances ≡ instance_count v → streams ≡ length v.streams → AreHeardBelow v lanes 0 heard
heard_none v lanes heard instances streams is many wide = record {
  count = record {
    instances = ap (λ (l : List (List (List ℕ))). length l) is ∙ length-replicate {A = List (List ℕ)} instances (replicate streams []) ∙ many;
    streams = λ k lt. ap (λ (l : List (List (List ℕ))). length (get_or l k [])) is ∙ ap (λ (l : List (List ℕ)). length l) (get_or-replicate instances k (replicate {A = List ℕ} streams []) [] (omega (arith, lt, many))) ∙ length-replicate {A = List ℕ} streams [] ∙ wide;
  };
  within = λ k s p h. absurd (subst (λ (l : List ℕ). Has p l) (ap (λ (l : List (List (List ℕ))). heard_at l k s) is ∙ none_heard instances streams k s) h);
  each = λ p c r n feed less here. absurd (omega (arith, less));
}

-- nor one at which anything comes in
pub readers_none : (v : View) (lanes : List Lane) (groups : List (List ℕ)) (instances : ℕ) → groups ≡ replicate instances [] → instances ≡ instance_count v → AreReadersBelow v lanes 0 groups
readers_none v lanes groups instances is many = record {
  count = ap (λ (l : List (List ℕ)). length l) is ∙ length-replicate {A = List ℕ} instances [] ∙ many;
  within = λ k p h. absurd (subst (λ (l : List ℕ). Has p l) (ap (λ (l : List (List ℕ)). get_or l k []) is ∙ none_listed instances k) h);
  each = λ p lane spot less here from. absurd (omega (arith, less));
}

-- ---- those on which instances hear

module _ (v : View) (lanes : List Lane) (i : ℕ) (old : List (List (List ℕ))) (so : AreHeardBelow v lanes i old) (lane : Lane) (at : slice_get lanes i ≡ Some lane) where
  pub heard_pass : (c : ℕ) (feed : Feed) → lane ≡ Order c feed → AreHeardBelow v lanes (i + 1) old
  heard_pass c feed is = record {
    count = so.count;
    within = so.within;
    each = λ p d r n other less here. elim (cases_eq p i) [
      | inl same ↦
          let bad : Some (Order c feed) ≡ Some (Deliver d r n other) = ap (λ (l : Lane). Some l) (sym is) ∙ sym at ∙ ap (slice_get lanes) (sym same) ∙ here in
          cc
      | inr differ ↦ so.each p d r n other (omega (arith, less, differ)) here
    ];
  }

  module _ (c r m : ℕ) (feed : Feed) (is : lane ≡ Deliver c r m feed) (instance : ℕ) (placed : instance ≡ instance_place v c r) (inside : instance < instance_count v) (stream : feed.stream < length v.streams) (group : List (List ℕ)) (new : List (List (List ℕ)))
      (added : group ≡ set (get_or old instance []) feed.stream (get_or (get_or old instance []) feed.stream [] ++ i ∷ [])) (becomes : new ≡ set old instance group) where
    there : instance < length old
    there = omega (arith, inside, so.count.instances)

    there_too : feed.stream < length (get_or old instance [])
    there_too = omega (arith, stream, so.count.streams instance inside)

    at_instance : get_or new instance [] ≡ group
    at_instance = ap (λ (l : List (List (List ℕ))). get_or l instance []) becomes ∙ get_or-set_same old instance group [] there

    elsewhere : (k : ℕ) → k ≢ instance → get_or new k [] ≡ get_or old k []
    elsewhere k differ = ap (λ (l : List (List (List ℕ))). get_or l k []) becomes ∙ get_or-set_other old instance k group [] differ

    stays : (k s p : ℕ) → Has p (heard_at old k s) → Has p (heard_at new k s)
    stays k s p h = elim (cases_eq k instance) [
      | inl same ↦
          subst (λ (l : List (List ℕ)). Has p (get_or l s [])) (sym (ap (λ n. get_or new n []) same ∙ at_instance))
          (added_stays (get_or old instance []) group feed.stream i there_too added s p (subst (λ n. Has p (heard_at old n s)) same h))
      | inr differ ↦ subst (λ (l : List (List ℕ)). Has p (get_or l s [])) (sym (elsewhere k differ)) h
    ]

    pub heard_more : AreHeardBelow v lanes (i + 1) new
    heard_more = record {
      count = record {
        instances = ap (λ (l : List (List (List ℕ))). length l) becomes ∙ length-set old instance group ∙ so.count.instances;
        streams = λ k less. elim (cases_eq k instance) [
          | inl same ↦
              ap (λ n. length (get_or new n [])) same ∙ ap (λ (l : List (List ℕ)). length l) at_instance
              ∙ added_count (get_or old instance []) group feed.stream i there_too added ∙ so.count.streams instance inside
          | inr differ ↦ ap (λ (l : List (List ℕ)). length l) (elsewhere k differ) ∙ so.count.streams k less
        ];
      };
      within = λ k s p h. elim (cases_eq k instance) [
        | inl same ↦
            added_below (get_or old instance []) group feed.stream i there_too added (length lanes) (so.within instance) (slice_get_within lanes i lane at) s p
            (subst (λ (l : List (List ℕ)). Has p (get_or l s [])) (ap (λ n. get_or new n []) same ∙ at_instance) h)
        | inr differ ↦ so.within k s p (subst (λ (l : List (List ℕ)). Has p (get_or l s [])) (elsewhere k differ) h)
      ];
      each = λ p d q n other less here. elim (cases_eq p i) [
        | inl same ↦
            let one : Some (Deliver c r m feed) ≡ Some (Deliver d q n other) = ap (λ (l : Lane). Some l) (sym is) ∙ sym at ∙ ap (slice_get lanes) (sym same) ∙ here in
            let component : c ≡ d = cc in
            let replica : r ≡ q = cc in
            let feeds : feed ≡ other = cc in
            subst (λ k. Has k (heard_at new (instance_place v d q) other.stream)) (sym same)
            (subst (λ (f : Feed). Has i (heard_at new (instance_place v d q) f.stream)) feeds
            (subst (λ k. Has i (heard_at new k feed.stream)) (placed ∙ ap (λ k. instance_place v k r) component ∙ ap (instance_place v d) replica)
            (subst (λ (l : List (List ℕ)). Has i (get_or l feed.stream [])) (sym at_instance) (added_has (get_or old instance []) group feed.stream i there_too added))))
        | inr differ ↦ stays (instance_place v d q) other.stream p (so.each p d q n other (omega (arith, less, differ)) here)
      ];
    }

-- ---- those at which messages of instances come in

module _ (v : View) (lanes : List Lane) (i : ℕ) (old : List (List ℕ)) (so : AreReadersBelow v lanes i old) (lane : Lane) (at : slice_get lanes i ≡ Some lane) where
  own : (p : ℕ) (other : Lane) → p ≡ i → slice_get lanes p ≡ Some other → lane ≡ other
  own p other same here = (let one : Some lane ≡ Some other = sym at ∙ ap (slice_get lanes) (sym same) ∙ here in let is : lane ≡ other = cc in is)

  -- a lane of a source
  pub readers_pass : origin_of v (lane_feed lane).stream ≡ None → AreReadersBelow v lanes (i + 1) old
  readers_pass source = record {
    count = so.count;
    within = so.within;
    each = λ p other spot less here origin. elim (cases_eq p i) [
      | inl same ↦
          let is : lane ≡ other = own p other same here in
          let bad : None ≡ Some spot = sym source ∙ ap (λ (l : Lane). origin_of v (lane_feed l).stream) is ∙ origin in
          cc
      | inr differ ↦ so.each p other spot (omega (arith, less, differ)) here origin
    ];
  }

  -- one of an instance
  pub readers_more : (c o number : ℕ) (new : List (List ℕ)) → origin_of v (lane_feed lane).stream ≡ Some (c, o) → number ≡ instance_place v c (lane_feed lane).sender → number < length old → new ≡ set old number (get_or old number [] ++ i ∷ []) → AreReadersBelow v lanes (i + 1) new
  readers_more c o number new origin is there becomes = record {
    count = added_count old new number i there becomes ∙ so.count;
    within = added_below old new number i there becomes (length lanes) so.within (slice_get_within lanes i lane at);
    each = λ p other spot less here from. elim (cases_eq p i) [
      | inl same ↦
          let one : lane ≡ other = own p other same here in
          let spots : Some (c, o) ≡ Some spot = sym origin ∙ ap (λ (l : Lane). origin_of v (lane_feed l).stream) one ∙ from in
          let component : c ≡ spot.0 = first_of (c, o) spot spots in
          let place : number ≡ instance_place v spot.0 (lane_feed other).sender = is ∙ ap (λ n. instance_place v n (lane_feed lane).sender) component ∙ ap (λ (l : Lane). instance_place v spot.0 (lane_feed l).sender) one in
          subst (λ k. Has k (get_or new (instance_place v spot.0 (lane_feed other).sender) [])) (sym same)
          (subst (λ k. Has i (get_or new k [])) place (added_has old new number i there becomes))
      | inr differ ↦ added_stays old new number i there becomes (instance_place v spot.0 (lane_feed other).sender) p (so.each p other spot (omega (arith, less, differ)) here from)
    ];
  }
    where
      first_of : (a b : End) → Some a ≡ Some b → a.0 ≡ b.0
      first_of a b e = (let same : a ≡ b = cc in ap (λ (spot : End). spot.0) same)

-- ---- the lanes of logs

module _ (v : View) (lanes : List Lane) (i : ℕ) (old : List (List ℕ)) (so : AreLanesBelow v lanes i old) (lane : Lane) (at : slice_get lanes i ≡ Some lane) where
  pub log_lanes_pass : (c r n : ℕ) (feed : Feed) → lane ≡ Deliver c r n feed → AreLanesBelow v lanes (i + 1) old
  log_lanes_pass c r n feed is = record {
    count = so.count;
    within = so.within;
    each = λ p d other less here. elim (cases_eq p i) [
      | inl same ↦
          let bad : Some (Deliver c r n feed) ≡ Some (Order d other) = ap (λ (l : Lane). Some l) (sym is) ∙ sym at ∙ ap (slice_get lanes) (sym same) ∙ here in
          cc
      | inr differ ↦ so.each p d other (omega (arith, less, differ)) here
    ];
  }

  pub log_lanes_more : (c number : ℕ) (feed : Feed) (new : List (List ℕ)) → lane ≡ Order c feed → number ≡ port_place c feed.port → number < length old → new ≡ set old number (get_or old number [] ++ i ∷ []) → AreLanesBelow v lanes (i + 1) new
  log_lanes_more c number feed new is at_port there becomes = record {
    count = added_count old new number i there becomes ∙ so.count;
    within = added_below old new number i there becomes (length lanes) so.within (slice_get_within lanes i lane at);
    each = λ p d other less here. elim (cases_eq p i) [
      | inl same ↦
          let one : Some (Order c feed) ≡ Some (Order d other) = ap (λ (l : Lane). Some l) (sym is) ∙ sym at ∙ ap (slice_get lanes) (sym same) ∙ here in
          let component : c ≡ d = cc in
          let feeds : feed ≡ other = cc in
          let place : number ≡ port_place d other.port = at_port ∙ ap (λ k. port_place k feed.port) component ∙ ap (λ (f : Feed). port_place d f.port) feeds in
          subst (λ k. Has k (get_or new (port_place d other.port) [])) (sym same) (subst (λ k. Has i (get_or new k [])) place (added_has old new number i there becomes))
      | inr differ ↦ added_stays old new number i there becomes (port_place d other.port) p (so.each p d other (omega (arith, less, differ)) here)
    ];
  }

-- among no lanes there is none of a log
pub logs_none : (v : View) (lanes : List Lane) (groups : List (List ℕ)) (ports : ℕ) → groups ≡ replicate ports [] → ports ≡ length v.components * 8 → AreLanesBelow v lanes 0 groups
logs_none v lanes groups ports is many = record {
  count = ap (λ (l : List (List ℕ)). length l) is ∙ length-replicate {A = List ℕ} ports [] ∙ many;
  within = λ k p h. absurd (subst (λ (l : List ℕ). Has p l) (ap (λ (l : List (List ℕ)). get_or l k []) is ∙ none_listed ports k) h);
  each = λ p c feed less here. absurd (omega (arith, less));
}

-- a port of a component stands among all
pub port_inside : (v : View) (c port many : ℕ) → IsBounded v → c < length v.components → port < length (component_at v c).ports → many ≡ length v.components * 8 → port_place c port < many
port_inside v c port many bounded there within e = (let few = bounded.ports c there in omega (arith, there, within, few, e))

-- ---- takers

pub takers_none : (v : View) (before : ℕ) (takers : List Taker) (groups : List (List ℕ)) (components : ℕ) → groups ≡ replicate components [] → components ≡ length v.components → AreTakersBelow v before takers 0 groups
takers_none v before takers groups components is many = record {
  count = ap (λ (l : List (List ℕ)). length l) is ∙ length-replicate {A = List ℕ} components [] ∙ many;
  within = λ k p h. absurd (subst (λ (l : List ℕ). Has p l) (ap (λ (l : List (List ℕ)). get_or l k []) is ∙ none_listed components k) h);
  each = λ n taker less at. absurd (omega (arith, less));
}

pub takers_more : (v : View) (before : ℕ) (takers : List Taker) (i : ℕ) (old new : List (List ℕ)) (taker : Taker) → AreTakersBelow v before takers i old → slice_get takers i ≡ Some taker → taker.component < length old → new ≡ set old taker.component (get_or old taker.component [] ++ (before + i) ∷ []) → AreTakersBelow v before takers (i + 1) new
takers_more v before takers i old new taker so at there becomes = record {
  count = added_count old new taker.component (before + i) there becomes ∙ so.count;
  within = added_below old new taker.component (before + i) there becomes (before + (i + 1)) (λ m p h. (let less = so.within m p h in omega (arith, less))) (omega arith);
  each = λ n other less here. elim (cases_eq n i) [
    | inl same ↦
        let one : Some taker ≡ Some other = sym at ∙ ap (slice_get takers) (sym same) ∙ here in
        let is : taker ≡ other = cc in
        subst (λ k. Has (before + k) (get_or new other.component [])) (sym same) (subst (λ (t : Taker). Has (before + i) (get_or new t.component [])) is (added_has old new taker.component (before + i) there becomes))
    | inr differ ↦ added_stays old new taker.component (before + i) there becomes other.component (before + n) (so.each n other (omega (arith, less, differ)) here)
  ];
}

-- ---- the places for a work

-- there are so many lists
pub counted : (v : View) (k : Works) (tables : Tables) → AreTablesOf v k tables → HaveCounts v tables
counted v k tables is = record { heard = is.heard.count; readers = is.readers.count; logs = is.logs.count; takers = is.takers.count }

module _ (v : View) (tables : Tables) (work : Work) (lane : Lane) (index : ℕ) (is : work ≡ Message lane index) (places : List ℕ) where
  pub closing_heard : (c r n : ℕ) (feed : Feed) → lane ≡ Deliver c r n feed → places ≡ heard_at tables.heard.items (instance_place v c r) feed.stream → places ≡ closing_places v tables work
  closing_heard c r n feed on are = are ∙ sym (ap (closing_places v tables) (is ∙ ap (λ (l : Lane). Message l index) on))

  pub closing_logged : (c : ℕ) (feed : Feed) → lane ≡ Order c feed → places ≡ get_or tables.logs (port_place c feed.port) [] → places ≡ closing_places v tables work
  closing_logged c feed on are = are ∙ sym (ap (closing_places v tables) (is ∙ ap (λ (l : Lane). Message l index) on))
