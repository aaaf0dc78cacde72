-- The places that are kept are those of instances and of lists, and they are small.
use Rattle.std.proofs.Common.{◌≡◌, ◌<◌, ◌≤◌, ◌+◌, ◌*◌, ℕ, zero, suc, Option, None, Some, List, length, get_or, slice_get, refl, ap, ◌∙◌, sym, subst, arith}
use Rattle.std.proofs.lemmas.Option.{slice_get_within, get_or_from_slice_get}
use Rattle.topo_forms.specs.Valid.{IsValid}
use Rattle.topo_forms.specs.View.{View, End, origin_of, replicas_of, senders_of, stream_replicas}
use Rattle.inbox.specs.Places.{ArePlaces, places_before, instance_place, list_place}
use Rattle.inbox.specs.declared.places.Places.{Places}
use Rattle.inbox.proofs.PlacesLemmas.{before-more}

-- where each number has at most eight places, so many stand before one
before-few : (size : ℕ → ℕ) (n : ℕ) → ((k : ℕ) → k < n → size k ≤ 8) → places_before size n ≤ 8 * n
before-few size zero few = omega arith
before-few size (suc n) few =
    let last : size n ≤ 8 = few n (omega arith) in
    let rest : places_before size n ≤ 8 * n = before-few size n (λ k less. few k (omega (arith, less))) in
    let next : suc n ≡ n + 1 = omega arith in
    let more : places_before size (suc n) ≡ places_before size n + size n = ap (places_before size) next ∙ before-more size n in
    omega (arith, last, rest, more)

-- a place is read off the first places of the numbers
pub record IsFound (firsts : List ℕ) (number replica place : ℕ) : Type 0 where
  pub within : number < length firsts
  pub is : get_or firsts number 0 + replica ≡ place
  pub small : get_or firsts number 0 + replica < 1000

found : (firsts : List ℕ) (size : ℕ → ℕ) (n count replica : ℕ) → slice_get firsts n ≡ Some (places_before size n + 0) → n < count → count ≤ 64 → ((k : ℕ) → k < count → size k ≤ 8) → replica < size n
    → IsFound firsts n replica (places_before size n + replica)
found firsts size n count replica at within few small less =
    let first : get_or firsts n 0 ≡ places_before size n + 0 = get_or_from_slice_get firsts n (places_before size n + 0) 0 at in
    let before : places_before size n ≤ 8 * n = before-few size n (λ k under. small k (omega (arith, under, within))) in
    let own : size n ≤ 8 = small n within in
    record {
      within = slice_get_within firsts n (places_before size n + 0) at;
      is = omega (arith, first);
      small = omega (arith, first, before, own, within, few, less);
    }

pub instance_found : (v : View) (p : Places) (c r : ℕ) → IsValid v → ArePlaces v p → c < length v.components → r < replicas_of v c → IsFound p.instances c r (instance_place v c r)
instance_found v p c r valid are there within =
    let few : length v.components ≤ 32 = valid.numbered.few_components in
    found p.instances (replicas_of v) c (length v.components) r (are.instances c there) there (omega (arith, few)) (λ k less. (valid.components k less).few_replicas) within

stream-few : (v : View) (s : ℕ) → IsValid v → s < length v.streams → stream_replicas v s ≤ 8
stream-few v s valid there = by_origin (origin_of v s) refl
  where
    by_origin : (o : Option End) → origin_of v s ≡ o → stream_replicas v s ≤ 8
    by_origin None is = (let one : stream_replicas v s ≡ 1 = ap (senders_of v) is in omega (arith, one))
    by_origin (Some spot) is =
        let many : stream_replicas v s ≡ replicas_of v spot.0 = ap (senders_of v) is in
        subst (λ n. n ≤ 8) (sym many) (valid.components spot.0 (valid.numbered.origins s spot there is).0).few_replicas

pub list_found : (v : View) (p : Places) (s r : ℕ) → IsValid v → ArePlaces v p → s < length v.streams → r < stream_replicas v s → IsFound p.lists s r (list_place v s r)
list_found v p s r valid are there within =
    found p.lists (stream_replicas v) s (length v.streams) r (are.lists s there) there valid.numbered.few_streams (λ k less. stream-few v k valid less) within
