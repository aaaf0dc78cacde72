-- The outlets of an instance: their lists are its own, each with the key that its stream carries.
use Rattle.std.proofs.Common.{◌≡◌, ◌<◌, ◌≤◌, ◌+◌, ◌==◌, ℕ, zero, suc, Bool, true, false, cond, Option, None, Some, List, [], ◌∷◌, ◌++◌, length, map, filter, get_or, slice_get, refl, ap, ◌∙◌, sym, subst, inl, inr, arith}
use Rattle.std.specs.List.{flat_map, range_with_len}
use Rattle.std.specs.Option.{option_map_or, option_and_then}
use Rattle.std.proofs.lemmas.Bool.{eqb-true, eq-eqb, and_parts, and_from, false_from_ne_true}
use Rattle.std.proofs.lemmas.Option.{slice_get-get_or}
use Rattle.blz_value.specs.Members.{Has}
use Rattle.blz_value.proofs.Membership.{Has-from_map, Has-from_filter}
use Rattle.blz_value.specs.NumberSets.{below}
use Rattle.blz_value.proofs.Ranges.{Has-below}
use Rattle.blz_value.proofs.Options.{first_place}
use Rattle.topo_forms.specs.Valid.{IsValid}
use Rattle.topo_forms.specs.View.{View, End, Stream, no_stream, stream_of, same_end, component_at, origin_of, replicas_of, stream_replicas, senders_of, comes_from, streams_from, stream_numbers}
use Rattle.inbox.specs.Emission.{output_key}
use Rattle.inbox.specs.Wiring.{carried_places, instance_for, wiring_of}
use Rattle.inbox.proofs.WiringLemmas.{get_or-below, length-below}
use Rattle.inbox.specs.Limits.{output_from, outputs_from}
use Rattle.inbox.specs.Running.{outputs_of_outlets}
use Rattle.inbox.specs.Outlets.{AreApart, output_number, outlet_for, outlets_for}
use Rattle.inbox.specs.Places.{list_place, list_count}
use Rattle.inbox.specs.declared.outlets.Outlet.{Outlet}
use Rattle.inbox.proofs.PlacesLemmas.{place-before, one_place}

-- ---- streams from a component

-- a stream comes from an output of the component
pub record ComesOf (v : View) (c s : ℕ) : Type 0 where
  pub there : s < length v.streams
  pub output : ℕ
  pub origin : origin_of v s ≡ Some (c, output)

pub from_component : (v : View) (c s : ℕ) → Has s (streams_from v c) → ComesOf v c s
from_component v c s h =
    let m = Has-from_filter (comes_from v c) s (stream_numbers v) h in
    by_origin (origin_of v s) refl (Has-below (length v.streams) s m.0) m.1
  where
    by_origin : (o : Option End) → origin_of v s ≡ o → s < length v.streams → comes_from v c s ≡ true → ComesOf v c s
    by_origin None is there comes = let no : false ≡ true = sym (ap (λ t. option_map_or (λ (output : End). output.0 == c) t false) is) ∙ comes in cc
    by_origin (Some spot) is there comes =
        let yes : (spot.0 == c) ≡ true = sym (ap (λ t. option_map_or (λ (output : End). output.0 == c) t false) is) ∙ comes in
        record { there = there; output = spot.1; origin = is ∙ ap (λ n. Some (n, spot.1)) (eqb-true spot.0 c yes) }

senders : (v : View) (c s : ℕ) → ComesOf v c s → stream_replicas v s ≡ replicas_of v c
senders v c s comes = ap (senders_of v) comes.origin

-- the numbers below a count, but for some of them, stand once
not_again : (p : ℕ → Bool) (a n q : ℕ) → Has q (filter p (range_with_len a n)) → a ≤ q
not_again p a zero q h = absurd h
not_again p a (suc n) q h = go (p a) h (λ g. not_again p (a + 1) n q g)
  where
    go : (b : Bool) → Has q (cond b (a ∷ filter p (range_with_len (a + 1) n)) (filter p (range_with_len (a + 1) n))) → (Has q (filter p (range_with_len (a + 1) n)) → a + 1 ≤ q) → a ≤ q
    go true (inl same) rest = omega (arith, same)
    go true (inr g) rest = omega (arith, rest g)
    go false g rest = omega (arith, rest g)

-- ---- apart

module _ (v : View) (c r : ℕ) (within : r < replicas_of v c) where
  place-inside : (s : ℕ) → ComesOf v c s → r < stream_replicas v s
  place-inside s comes = subst (λ n. r < n) (sym (senders v c s comes)) within

  one_list : (s u : ℕ) → ComesOf v c s → ComesOf v c u → list_place v s r ≡ list_place v u r → s ≡ u
  one_list s u a b same = (one_place (stream_replicas v) s r u r (place-inside s a) (place-inside u b) same).0

  apart_from : (p : ℕ → Bool) (a n : ℕ) → ((s : ℕ) → Has s (filter p (range_with_len a n)) → ComesOf v c s) → AreApart (map (outlet_for v r) (filter p (range_with_len a n)))
  apart_from p a zero all = tt
  apart_from p a (suc n) all = go (p a) all (λ more. apart_from p (a + 1) n more)
    where
      rest : List ℕ
      rest = filter p (range_with_len (a + 1) n)

      go : (b : Bool) → ((s : ℕ) → Has s (cond b (a ∷ filter p (range_with_len (a + 1) n)) (filter p (range_with_len (a + 1) n))) → ComesOf v c s)
          → (((s : ℕ) → Has s (filter p (range_with_len (a + 1) n)) → ComesOf v c s) → AreApart (map (outlet_for v r) (filter p (range_with_len (a + 1) n))))
          → AreApart (map (outlet_for v r) (cond b (a ∷ filter p (range_with_len (a + 1) n)) (filter p (range_with_len (a + 1) n))))
      go true each later = (
        λ other h same.
            let m = Has-from_map (outlet_for v r) other (filter p (range_with_len (a + 1) n)) h in
            let one : a ≡ m.0 = one_list a m.0 (each a (inl refl)) (each m.0 (inr m.1)) (same ∙ ap (λ (o : Outlet). o.place) (sym m.2)) in
            absurd (omega (arith, one, not_again p (a + 1) n m.0 m.1)),
        later (λ s h. each s (inr h)),
      )
      go false each later = later each

  -- no two outlets have one list
  pub outlets_apart : AreApart (outlets_for v c r)
  outlets_apart = apart_from (comes_from v c) 0 (length v.streams) (λ s h. from_component v c s h)

  -- and each list is there
  pub outlets_there : (o : Outlet) → Has o (outlets_for v c r) → o.place < list_count v
  outlets_there o h =
      let m = Has-from_map (outlet_for v r) o (streams_from v c) h in
      let comes = from_component v c m.0 m.1 in
      subst (λ (p : Outlet). p.place < list_count v) m.2 (place-before (stream_replicas v) m.0 r (length v.streams) (place-inside m.0 comes) comes.there)

-- each output is one of the component
pub outlets_outputs : (v : View) (c r : ℕ) → IsValid v → (o : Outlet) → Has o (outlets_for v c r) → o.output < length (component_at v c).outputs
outlets_outputs v c r valid o h =
    let m = Has-from_map (outlet_for v r) o (streams_from v c) h in
    let comes = from_component v c m.0 m.1 in
    let inside = (valid.numbered.origins m.0 (c, comes.output) comes.there comes.origin).1 in
    subst (λ (p : Outlet). p.output < length (component_at v c).outputs) m.2 (subst (λ t. output_number t < length (component_at v c).outputs) (sym comes.origin) inside)

-- ---- the keys

is_from : (o : Option End) (c output : ℕ) → option_map_or (same_end (c, output)) o false ≡ true → o ≡ Some (c, output)
is_from None c output e = cc
is_from (Some spot) c output e =
    let t = and_parts (c == spot.0) (output == spot.1) e in
    let f : ℕ → ℕ → Option End = λ m n. Some (m, n) in
    ap (λ m. f m spot.1) (sym (eqb-true c spot.0 t.0)) ∙ ap (f c) (sym (eqb-true output spot.1 t.1))

from_is : (o : Option End) (c output : ℕ) → o ≡ Some (c, output) → option_map_or (same_end (c, output)) o false ≡ true
from_is o c output e = ap (λ t. option_map_or (same_end (c, output)) t false) e ∙ and_from (c == c) (output == output) (eq-eqb c c refl) (eq-eqb output output refl)

-- the stream of an output is the one that comes from it
pub own_stream : (v : View) (c s output : ℕ) → IsValid v → s < length v.streams → origin_of v s ≡ Some (c, output) → stream_of v c output ≡ Some s
own_stream v c s output valid there comes =
    first_place (λ (stream : Stream). option_map_or (same_end (c, output)) stream.origin false) v.streams 0 s no_stream there (from_is (origin_of v s) c output comes)
    (λ j less. false_from_ne_true (option_map_or (same_end (c, output)) (origin_of v j) false)
    (λ passes. let same : j ≡ s = valid.numbered.one_stream j s (c, output) (omega (arith, less, there)) there (is_from (origin_of v j) c output passes) comes in omega (arith, same, less)))
    ∙ ap (λ n. Some n) (let e : 0 + s ≡ s = omega arith in e)

pub outlets_keys : (v : View) (c r : ℕ) → IsValid v → (o : Outlet) → Has o (outlets_for v c r) → o.key ≡ output_key (instance_for v c r) o.output
outlets_keys v c r valid o h =
    let m = Has-from_map (outlet_for v r) o (streams_from v c) h in
    let comes = from_component v c m.0 m.1 in
    let count : ℕ = length (component_at v c).outputs in
    let inside : comes.output < count = (valid.numbered.origins m.0 (c, comes.output) comes.there comes.origin).1 in
    let key : ℕ → Option (List ℕ) = λ output. option_and_then (carried_places v) (stream_of v c output) in
    let at : slice_get (map key (below count)) comes.output ≡ Some (key comes.output) =
    slice_get-get_or (map key (below count)) comes.output None (subst (λ n. comes.output < n) (sym (length-below key count)) inside) ∙ ap (λ k. Some k) (get_or-below key count comes.output None inside) in
    let own : output_key (instance_for v c r) comes.output ≡ carried_places v m.0 =
    ap (option_and_then (λ k. k)) at ∙ ap (option_and_then (carried_places v)) (own_stream v c m.0 comes.output valid comes.there comes.origin) in
    subst (λ (p : Outlet). p.key ≡ output_key (instance_for v c r) p.output) m.2
    (sym (ap (λ t. output_key (instance_for v c r) (output_number t)) comes.origin ∙ own))

-- ---- the outputs

own_output : (c : ℕ) (o : Option End) (s : ℕ) → output_from c o ≡ cond (option_map_or (λ (output : End). output.0 == c) o false) (output_number o ∷ []) []
own_output c None s = refl
own_output c (Some spot) s = refl

own_outputs : (v : View) (c r : ℕ) (ns : List ℕ) → flat_map (λ s. output_from c (origin_of v s)) ns ≡ map (λ (o : Outlet). o.output) (map (outlet_for v r) (filter (comes_from v c) ns))
own_outputs v c r [] = refl
own_outputs v c r (s ∷ ns) = ap (λ l. l ++ flat_map (λ n. output_from c (origin_of v n)) ns) (own_output c (origin_of v s) s) ∙ go (comes_from v c s) (own_outputs v c r ns)
  where
    go : (b : Bool) → flat_map (λ n. output_from c (origin_of v n)) ns ≡ map (λ (o : Outlet). o.output) (map (outlet_for v r) (filter (comes_from v c) ns))
        → cond b (output_number (origin_of v s) ∷ []) [] ++ flat_map (λ n. output_from c (origin_of v n)) ns ≡ map (λ (o : Outlet). o.output) (map (outlet_for v r) (cond b (s ∷ filter (comes_from v c) ns) (filter (comes_from v c) ns)))
    go true rest = ap (λ l. output_number (origin_of v s) ∷ l) rest
    go false rest = rest

flat_places : {X Y : Type 0} (g : X → List Y) (d : X) (xs : List X) (a : ℕ) (ys : List X) → ((k : ℕ) → k < length xs → get_or ys (a + k) d ≡ get_or xs k d) → flat_map g xs ≡ flat_map (λ n. g (get_or ys n d)) (range_with_len a (length xs))
flat_places g d [] a ys same = refl
flat_places g d (x ∷ xs) a ys same =
    let first : x ≡ get_or ys a d = sym (ap (λ n. get_or ys n d) (let e : a ≡ a + 0 = omega arith in e) ∙ same 0 (omega arith)) in
    ap (λ z. g z ++ flat_map g xs) first
    ∙ ap (λ l. g (get_or ys a d) ++ l) (flat_places g d xs (a + 1) ys (λ k less. ap (λ n. get_or ys n d) (let e : a + 1 + k ≡ a + suc k = omega arith in e) ∙ same (suc k) (omega (arith, less))))

-- the numbers of the outlets' outputs are those of the outputs that have a stream
pub outlets_are : (v : View) (c r : ℕ) → outputs_from (wiring_of v) c ≡ outputs_of_outlets (outlets_for v c r)
unfolding wiring_of
outlets_are v c r =
    flat_places (λ (stream : Stream). output_from c stream.origin) no_stream v.streams 0 v.streams (λ k less. ap (λ n. get_or v.streams n no_stream) (let e : 0 + k ≡ k = omega arith in e))
    ∙ own_outputs v c r (below (length v.streams))
