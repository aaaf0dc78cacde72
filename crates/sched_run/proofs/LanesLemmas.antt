-- The lanes and takers of a topology, one after another.
use Rattle.std.proofs.Common.{◌≡◌, ◌<◌, ◌≤◌, ◌+◌, ℕ, Bool, true, false, cond, List, [], ◌∷◌, ◌++◌, length, map, filter, take, get_or, append_assoc, append-nil, refl, ap, ◌∙◌, sym, subst, arith}
use Rattle.std.specs.List.{enumerate_from, flat_map}
use Rattle.std.proofs.lemmas.Grind.{flat_map-append}
use Rattle.std.proofs.lemmas.List.{length-take, map-append, take_more, take_all}
use Rattle.std.proofs.lemmas.List.Elements.{filter-append}
use Rattle.blz_value.proofs.Enumerated.{enumerate_from-push}
use Rattle.blz_value.specs.Members.{Has}
use Rattle.blz_value.proofs.Membership.{Has-get_or}
use Rattle.topo_forms.specs.Feeds.{Feed}
use Rattle.blz_value.specs.NumberSets.{below}
use Rattle.topo_forms.specs.Valid.{IsValid}
use Rattle.topo_forms.specs.View.{View, End, Stream, no_stream, ends_of, replicas_of, is_order, is_order_mode}
use Rattle.inbox.specs.Instances.{Instance}
use Rattle.inbox.specs.Wiring.{feeds_for, instance_at, instance_for, is_sequencer, wiring_of}
use Rattle.inbox.proofs.WiringLemmas.{instance-wired, instances-wired, length-below}
use Rattle.sched_run.specs.Made.{comes_at, feeds_here, instance_lanes, log_lanes, lanes_at, all_lanes, replicas_at, takers_at, all_takers}
use Rattle.sched_run.specs.declared.lanes.Lane.TheVariants.{Deliver, Order}
use Rattle.sched_run.specs.declared.lanes.Taker.{Taker}

-- ---- the wiring

pub streams_wired : (v : View) → (wiring_of v).streams ≡ v.streams
unfolding wiring_of
streams_wired v = refl

pub many_wired : (v : View) → length (wiring_of v).components ≡ length v.components
unfolding wiring_of
many_wired v = length-below (λ c. map (instance_for v c) (below (replicas_of v c))) (length v.components)

pub replicas_wired : (v : View) (c : ℕ) → c < length v.components → replicas_at (wiring_of v) c ≡ below (replicas_of v c)
replicas_wired v c there = ap below (ap (λ (l : List Instance). length l) (instances-wired v c there) ∙ length-below (instance_for v c) (replicas_of v c))

pub feeds_wired : (v : View) (c r : ℕ) → c < length v.components → r < replicas_of v c → (instance_at (wiring_of v) c r).feeds ≡ feeds_for v c r
feeds_wired v c r there within = ap (λ (i : Instance). i.feeds) (instance-wired v c r there within)

pub order_wired : (v : View) (c : ℕ) → IsValid v → c < length v.components → is_sequencer (wiring_of v) c ≡ is_order v c
order_wired v c valid there = ap (λ (i : Instance). is_order_mode i.mode) (instance-wired v c 0 there (omega (arith, (valid.components c there).some_replica)))

-- ---- one feed more

pub here_more : {X : Type 0} (make : ℕ × Feed → X) (s p : ℕ) (feeds : List Feed) (i : ℕ) (feed : Feed) (b : Bool) → i < length feeds → feed ≡ get_or feeds i feed → comes_at s p feed ≡ b
    → map make (feeds_here s p (take (i + 1) feeds)) ≡ map make (feeds_here s p (take i feeds)) ++ cond b (make (i, feed) ∷ []) []
here_more {X} make s p feeds i feed b within at is =
    let test : ℕ × Feed → Bool = λ place. comes_at s p place.1 in
    let long : 0 + length (take i feeds) ≡ i = omega (arith, length-take i feeds, within) in
    ap (λ (l : List Feed). map make (filter test (enumerate_from 0 l))) (take_more feeds i feed within ∙ ap (λ (f : Feed). take i feeds ++ f ∷ []) (sym at))
    ∙ ap (λ (l : List (ℕ × Feed)). map make (filter test l)) (enumerate_from-push 0 (take i feeds) feed ∙ ap (λ n. enumerate_from 0 (take i feeds) ++ (n, feed) ∷ []) long)
    ∙ ap (map make) (filter-append test (enumerate_from 0 (take i feeds)) ((i, feed) ∷ []))
    ∙ map-append make (filter test (enumerate_from 0 (take i feeds))) (filter test ((i, feed) ∷ []))
    ∙ ap (λ (l : List X). map make (filter test (enumerate_from 0 (take i feeds))) ++ l) (one b is)
  where
    one : (b : Bool) → comes_at s p feed ≡ b → map make (filter (λ (place : ℕ × Feed). comes_at s p place.1) ((i, feed) ∷ [])) ≡ cond b (make (i, feed) ∷ []) []
    one true e = rw e
    one false e = rw e

-- ---- what is pushed

-- a part more of what comes behind a front
pub behind_more : {X : Type 0} (front before more after items pushed : List X) → items ≡ front ++ before → pushed ≡ items ++ more → after ≡ before ++ more → pushed ≡ front ++ after
behind_more {X} front before more after items pushed are is e =
    is ∙ ap (λ (l : List X). l ++ more) are ∙ append_assoc front before more ∙ ap (λ (l : List X). front ++ l) (sym e)

-- nothing more
pub behind_same : {X : Type 0} (front before after items : List X) → items ≡ front ++ before → after ≡ before ++ [] → items ≡ front ++ after
behind_same {X} front before after items are e = are ∙ ap (λ (l : List X). front ++ l) (sym (e ∙ append-nil before))

-- ---- one end more

-- a component to which a stream goes is there
pub end_there : (v : View) (s n c p : ℕ) → IsValid v → s < length v.streams → n < length (ends_of v s) → (c, p) ≡ get_or (ends_of v s) n (0, 0) → c < length v.components
end_there v s n c p valid there within at =
    (valid.numbered.ends s (c, p) there (subst (λ (end : End). Has end (ends_of v s)) (sym at) (Has-get_or (ends_of v s) n (0, 0) within))).0

-- the lanes of one end more
pub lanes_more : {X : Type 0} (f : End → List X) (ends : List End) (n : ℕ) (end : End) (old so longer : List X) → n < length ends → end ≡ get_or ends n (0, 0) → so ≡ old ++ flat_map f (take n ends) → longer ≡ so ++ f end → longer ≡ old ++ flat_map f (take (n + 1) ends)
lanes_more f ends n end old so longer within at is more =
    let next : End = get_or ends n (0, 0) in
    let all : flat_map f (take (n + 1) ends) ≡ flat_map f (take n ends) ++ f next =
    ap (flat_map f) (take_more ends n (0, 0) within) ∙ flat_map-append f (take n ends) (next ∷ []) ∙ ap (λ l. flat_map f (take n ends) ++ l) (append-nil (f next)) in
    more ∙ (λ j. is j ++ f (at j)) ∙ append_assoc old (flat_map f (take n ends)) (f next) ∙ ap (λ l. old ++ l) (sym all)

-- ---- one stream more

pub streams_more : {X : Type 0} (f : ℕ × Stream → List X) (streams : List Stream) (s : ℕ) → s < length streams
    → flat_map f (enumerate_from 0 (take (s + 1) streams)) ≡ flat_map f (enumerate_from 0 (take s streams)) ++ f (s, get_or streams s no_stream)
streams_more {X} f streams s within =
    let long : 0 + length (take s streams) ≡ s = omega (arith, length-take s streams, within) in
    ap (λ (l : List Stream). flat_map f (enumerate_from 0 l)) (take_more streams s no_stream within)
    ∙ ap (flat_map f) (enumerate_from-push 0 (take s streams) (get_or streams s no_stream) ∙ ap (λ n. enumerate_from 0 (take s streams) ++ (n, get_or streams s no_stream) ∷ []) long)
    ∙ flat_map-append f (enumerate_from 0 (take s streams)) ((s, get_or streams s no_stream) ∷ [])
    ∙ ap (λ (l : List X). flat_map f (enumerate_from 0 (take s streams)) ++ l) (append-nil (f (s, get_or streams s no_stream)))

-- ---- where it ends

pub instance_end : (v : View) (s c p r : ℕ) (feeds : List Feed) → c < length v.components → r < replicas_of v c → feeds ≡ feeds_for v c r → map (λ place. Deliver c r place.0 place.1) (feeds_here s p feeds) ≡ instance_lanes (wiring_of v) s c p r
instance_end v s c p r feeds there within are = ap (λ (fs : List Feed). map (λ place. Deliver c r place.0 place.1) (feeds_here s p fs)) (are ∙ sym (feeds_wired v c r there within))

pub log_end : (v : View) (s c p : ℕ) (feeds : List Feed) → IsValid v → c < length v.components → feeds ≡ feeds_for v c 0 → map (λ place. Order c place.1) (feeds_here s p feeds) ≡ log_lanes (wiring_of v) s c p
log_end v s c p feeds valid there are = ap (λ (fs : List Feed). map (λ place. Order c place.1) (feeds_here s p fs)) (are ∙ sym (feeds_wired v c 0 there (omega (arith, (valid.components c there).some_replica))))

-- the first feeds, all of which were passed
pub all_here : {X : Type 0} (make : ℕ × Feed → X) (s p : ℕ) (feeds : List Feed) (i : ℕ) → length feeds ≤ i → map make (feeds_here s p (take i feeds)) ≡ map make (feeds_here s p feeds)
all_here make s p feeds i past = ap (λ (fs : List Feed). map make (feeds_here s p fs)) (take_all i feeds past)

pub order_end : (v : View) (s c p : ℕ) → IsValid v → c < length v.components → is_order v c ≡ true → log_lanes (wiring_of v) s c p ≡ lanes_at (wiring_of v) s (c, p)
order_end v s c p valid there order =
    sym (ap (λ b. cond b (log_lanes (wiring_of v) s c p) (flat_map (instance_lanes (wiring_of v) s c p) (replicas_at (wiring_of v) c))) (order_wired v c valid there ∙ order))

pub free_end : (v : View) (s c p n : ℕ) → IsValid v → c < length v.components → is_order v c ≡ false → n ≡ replicas_of v c → flat_map (instance_lanes (wiring_of v) s c p) (below n) ≡ lanes_at (wiring_of v) s (c, p)
free_end v s c p n valid there free all =
    ap (flat_map (instance_lanes (wiring_of v) s c p)) (ap below all ∙ sym (replicas_wired v c there))
    ∙ sym (ap (λ b. cond b (log_lanes (wiring_of v) s c p) (flat_map (instance_lanes (wiring_of v) s c p) (replicas_at (wiring_of v) c))) (order_wired v c valid there ∙ free))

pub all_lanes_end : (v : View) (s : ℕ) → length v.streams ≤ s → flat_map (λ (place : ℕ × Stream). flat_map (lanes_at (wiring_of v) place.0) place.1.to) (enumerate_from 0 (take s v.streams)) ≡ all_lanes (wiring_of v)
all_lanes_end v s past = ap (λ (streams : List Stream). flat_map (λ (place : ℕ × Stream). flat_map (lanes_at (wiring_of v) place.0) place.1.to) (enumerate_from 0 streams)) (take_all s v.streams past ∙ sym (streams_wired v))

-- the takers of a component

pub takers_end : (v : View) (c n : ℕ) → IsValid v → c < length v.components → is_order v c ≡ true → n ≡ replicas_of v c → map (λ replica. record { component = c; replica = replica }) (below n) ≡ takers_at (wiring_of v) c
takers_end v c n valid there order all =
    ap (map (λ replica. record { component = c; replica = replica })) (ap below all ∙ sym (replicas_wired v c there))
    ∙ sym (ap (λ b. cond b (map (λ replica. record { component = c; replica = replica }) (replicas_at (wiring_of v) c)) []) (order_wired v c valid there ∙ order))

pub none_end : (v : View) (c : ℕ) (before : List Taker) → IsValid v → c < length v.components → is_order v c ≡ false → before ≡ before ++ takers_at (wiring_of v) c
none_end v c before valid there free =
    sym (ap (λ b. before ++ cond b (map (λ replica. record { component = c; replica = replica }) (replicas_at (wiring_of v) c)) []) (order_wired v c valid there ∙ free) ∙ append-nil before)

pub all_takers_end : (v : View) (c : ℕ) → c ≡ length v.components → flat_map (takers_at (wiring_of v)) (below c) ≡ all_takers (wiring_of v)
all_takers_end v c all = ap (λ n. flat_map (takers_at (wiring_of v)) (below n)) (all ∙ sym (many_wired v))
