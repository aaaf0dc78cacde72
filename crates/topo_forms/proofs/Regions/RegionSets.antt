-- Regions by their numbers: each is that of each of its members, and there are no more than components.
use Rattle.std.proofs.Common.{◌≡◌, ◌≤◌, ◌<◌, inl, inr, ℕ, zero, suc, true, Option, None, Some, List, [], ◌∷◌, length, refl, arith, ap, sym, subst, ◌∙◌, bit_or}
use Rattle.blz_value.specs.Members.{Has}
use Rattle.blz_value.specs.declared.attrs.Fd.{Fd}
use Rattle.blz_value.proofs.Members.{member_small}
use Rattle.bloom_forms.proofs.Collections.Chosen.{from_chosen}
use Rattle.topo_forms.specs.declared.graph_facts.GraphFacts.{GraphFacts}
use Rattle.topo_forms.specs.Found.{found_of}
use Rattle.blz_value.specs.Graph.{Edge, arrows, is_in, together, region, is_next, next, regions_from}
use Rattle.topo_forms.specs.Regions.{edges, region_set, regions}
use Rattle.blz_value.specs.NumberSets.{below}
use Rattle.blz_value.proofs.Ranges.{Has-below as from_below}
use Rattle.topo_forms.specs.Valid.{IsValid}
use Rattle.topo_forms.specs.View.{View}
use Rattle.topo_forms.proofs.Regions.Classes.{same-class}
use Rattle.topo_forms.proofs.Regions.Numbering.{find-some}
use Rattle.topo_forms.proofs.Regions.RegionOrder.{where_same}

-- the regions from here on, by the next component
abbrev from_next : List Edge → List Fd → (count left done : ℕ) → Option ℕ → List ℕ
from_next es arrs count left done None = []
from_next es arrs count left done (Some c) = region arrs count c ∷ regions_from es arrs count left (bit_or done (region arrs count c))

module _ (v : View) (valid : IsValid v) where
  abbrev count : ℕ
  count = length v.components

  abbrev ar : List Fd
  ar = arrows (edges v)

  few : length v.components ≤ 64
  few = omega (arith, valid.numbered.few_components)

  -- the set is the region of a component
  abbrev pub IsRegion : ℕ → Type 0
  IsRegion set = (c : ℕ) × (c < length v.components) × (set ≡ region_set v c)

  each_from : (left done set : ℕ) → Has set (regions_from (edges v) ar count left done) → IsRegion set
  unfolding region_set
  each_from zero done set has = absurd has
  each_from (suc left) done set has = by (next (edges v) ar count done) refl (λ d later. each_from left d set later) has
    where
      by : (o : Option ℕ) → next (edges v) ar count done ≡ o → ((d : ℕ) → Has set (regions_from (edges v) ar count left d) → IsRegion set) → Has set (from_next (edges v) ar count left done o) → IsRegion set
      by None e more h = absurd h
      by (Some c) e more (inl same) = (c, from_below count c (find-some (is_next (edges v) ar count done) (below count) c e).0, sym same)
      by (Some c) e more (inr later) = more (bit_or done (region ar count c)) later

  pub each_region : (set : ℕ) → Has set (regions v) → IsRegion set
  unfolding regions
  each_region set has = each_from count 0 set has

  joined : (c d : ℕ) → is_in d (region_set v c) ≡ true → (d < length v.components) × (together ar c d ≡ true)
  unfolding region_set
  joined c d h =
      let chosen = from_chosen (together ar c) (λ n. n) (below count) d (member_small d (region ar count c) h) h in
      (subst (λ (n : ℕ). n < count) chosen.is (from_below count chosen.element chosen.stands), subst (λ (n : ℕ). together ar c n ≡ true) chosen.is chosen.passes)

  -- a member is a component
  pub member_within : (set d : ℕ) → Has set (regions v) → is_in d set ≡ true → d < length v.components
  member_within set d has h =
      let of = each_region set has in
      (joined of.0 d (subst (λ (s : ℕ). is_in d s ≡ true) of.2 h)).0

  pub region_of_member : (set d : ℕ) → Has set (regions v) → is_in d set ≡ true → region_set v d ≡ set
  unfolding region_set
  region_of_member set d has h =
      let of = each_region set has in
      let there = joined of.0 d (subst (λ (s : ℕ). is_in d s ≡ true) of.2 h) in
      sym (of.2 ∙ where_same (together ar of.0) (together ar d) (below count) (λ n at.
      same-class ar of.0 d n (omega (arith, of.1, few)) (omega (arith, there.0, few)) (omega (arith, from_below count n at, few)) there.1))

few_from : (es : List Edge) (arrs : List Fd) (count left done : ℕ) → length (regions_from es arrs count left done) ≤ left
few_from es arrs count zero done = omega arith
few_from es arrs count (suc left) done = by (next es arrs count done) (λ d. few_from es arrs count left d)
  where
    by : (o : Option ℕ) → ((d : ℕ) → length (regions_from es arrs count left d) ≤ left) → length (from_next es arrs count left done o) ≤ suc left
    by None few = omega arith
    by (Some c) few = let fewer = few (bit_or done (region arrs count c)) in omega (arith, fewer)

-- there are no more regions than components
pub few_regions : (v : View) → length (regions v) ≤ length v.components
unfolding regions
few_regions v = few_from (edges v) (arrows (edges v)) (length v.components) (length v.components) 0

-- the regions that are found are those of the view
pub regions_found : (f : GraphFacts) (v : View) → f ≡ found_of v → f.regions ≡ regions v
regions_found f v is = ap (λ (x : GraphFacts). x.regions) is
