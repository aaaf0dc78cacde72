-- The places of a topology, number by number.
use Rattle.std.proofs.Common.{◌≡◌, ◌<◌, ◌≤◌, ◌+◌, ◌*◌, ℕ, Option, None, Some, List, [], ◌∷◌, ◌++◌, length, map, slice_get, refl, ap, ◌∙◌, sym, subst, arith}
use Rattle.std.proofs.lemmas.Option.{slice_get-get_or}
use Rattle.blz_value.specs.NumberSets.{below}
use Rattle.blz_value.proofs.Ranges.{map_below_more}
use Rattle.topo_forms.specs.Valid.{IsValid}
use Rattle.topo_forms.specs.View.{View, End, senders_of, origin_of, replicas_of, stream_replicas}
use Rattle.inbox.proofs.WiringLemmas.{get_or-below, length-below}
use Rattle.inbox.specs.Places.{ArePlaces, places_before, instance_place, list_place}
use Rattle.inbox.specs.declared.places.Places.{Places}
use Rattle.inbox.proofs.PlacesLemmas.{before-more}

-- ---- sizes

pub few_replicas : (v : View) → IsValid v → (c : ℕ) → c < length v.components → replicas_of v c ≤ 8
few_replicas v valid c there = (valid.components c there).few_replicas

pub few_senders : (v : View) → IsValid v → (s : ℕ) → s < length v.streams → stream_replicas v s ≤ 8
few_senders v valid s there = go (origin_of v s) refl
  where
    go : (o : Option End) → origin_of v s ≡ o → senders_of v o ≤ 8
    go None e = omega arith
    go (Some output) e = (valid.components output.0 ((valid.numbered.origins s output there e).0)).few_replicas

-- ---- one place more

-- the places of those before a number, the place of that number, and that it is small
pub record HasPlaces (size : ℕ → ℕ) (number : ℕ) (places : List ℕ) (next : ℕ) : Type 0 where
  pub are : places ≡ map (λ n. places_before size n + 0) (below number)
  pub is : next ≡ places_before size number
  pub few : next ≤ 8 * number

pub places_more : (size : ℕ → ℕ) (number : ℕ) (places : List ℕ) (next count : ℕ) → HasPlaces size number places next → count ≡ size number → count ≤ 8 → HasPlaces size (number + 1) (places ++ next ∷ []) (next + count)
places_more size number places next count h same small = record {
  are =
      ap (λ l. l ++ next ∷ []) h.are
      ∙ ap (λ n. map (λ k. places_before size k + 0) (below number) ++ n ∷ []) (h.is ∙ (let e : places_before size number ≡ places_before size number + 0 = omega arith in e))
      ∙ sym (map_below_more (λ k. places_before size k + 0) number);
  is = omega (arith, h.is, same, before-more size number);
  few = omega (arith, h.few, small);
}

-- a count of places, without a list of them
pub record HasCounted (size : ℕ → ℕ) (number next : ℕ) : Type 0 where
  pub is : next ≡ places_before size number
  pub few : next ≤ 8 * number

pub counted_more : (size : ℕ → ℕ) (number next count : ℕ) → HasCounted size number next → count ≡ size number → count ≤ 8 → HasCounted size (number + 1) (next + count)
counted_more size number next count h same small = record { is = omega (arith, h.is, same, before-more size number); few = omega (arith, h.few, small) }

-- ---- all places

pub are_places : (v : View) (p : Places) → p.instances ≡ map (λ c. instance_place v c 0) (below (length v.components)) → p.lists ≡ map (λ s. list_place v s 0) (below (length v.streams)) → ArePlaces v p
are_places v p instances lists = record {
  instances = λ c there. at p.instances (λ n. instance_place v n 0) (length v.components) c instances there;
  lists = λ s there. at p.lists (λ n. list_place v n 0) (length v.streams) s lists there;
}
  where
    at : (places : List ℕ) (place : ℕ → ℕ) (count n : ℕ) → places ≡ map place (below count) → n < count → slice_get places n ≡ Some (place n)
    at places place count n are less =
        ap (λ l. slice_get l n) are
        ∙ slice_get-get_or (map place (below count)) n 0 (subst (λ k. n < k) (sym (length-below place count)) less)
        ∙ ap Some (get_or-below place count n 0 less)
