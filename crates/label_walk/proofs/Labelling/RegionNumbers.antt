-- Each component has a region with a number.
use Rattle.std.proofs.Common.{◌≡◌, ◌<◌, ◌+◌, inl, inr, ℕ, suc, true, false, List, [], ◌∷◌, length, get_or, arith, ap, sym, subst, ◌∙◌}
use Rattle.std.specs.List.{position_or_len}
use Rattle.std.proofs.lemmas.Bool.{cases_Bool, true≢false}
use Rattle.blz_value.proofs.Membership.{Has-get_or}
use Rattle.blz_value.specs.Graph.{is_in, is_cyclic_set, SomeHas}
use Rattle.topo_forms.specs.Regions.{edges, region_of, region_set, regions, is_cyclic, is_in_cycle}
use Rattle.topo_forms.specs.Valid.{IsValid}
use Rattle.topo_forms.specs.View.{View}
use Rattle.topo_forms.proofs.Regions.Lower.{given}
use Rattle.topo_forms.proofs.Regions.RegionSets.{region_of_member}
use Rattle.label_walk.specs.Paths.{IsCycleOf, region_at}

-- the first set that has a number is among the sets, and has it
found : (c : ℕ) (sets : List ℕ) → SomeHas c sets → (position_or_len (is_in c) sets < length sets) × (is_in c (get_or sets (position_or_len (is_in c) sets) 0) ≡ true)
found c [] some = absurd some
found c (set ∷ sets) some = elim (cases_Bool (is_in c set)) [
  | inl here ↦ rw here (omega arith, here)
  | inr away ↦ elim some [
    | inl here ↦ absurd (true≢false (sym here ∙ away))
    | inr later ↦ rw away (
        let next = found c sets later in
        let more : 1 + position_or_len (is_in c) sets ≡ suc (position_or_len (is_in c) sets) = omega arith in
        subst (λ (k : ℕ). (k < length (set ∷ sets)) × (is_in c (get_or (set ∷ sets) k 0) ≡ true)) (sym more) (omega (arith, next.0), next.1))
  ]
]

module _ (v : View) (valid : IsValid v) (c : ℕ) (lt : c < length v.components) where
  first : (region_of v c < length (regions v)) × (is_in c (region_at v (region_of v c)) ≡ true)
  unfolding regions
  first = found c (regions v) ((given v valid).cover c lt)

  pub number_within : region_of v c < length (regions v)
  number_within = first.0

  pub own_region : region_at v (region_of v c) ≡ region_set v c
  own_region = sym (region_of_member v valid (region_at v (region_of v c)) c (Has-get_or (regions v) (region_of v c) 0 first.0) first.1)

  pub own_cycle : is_cyclic v (region_of v c) ≡ is_in_cycle v c
  unfolding is_in_cycle
  own_cycle = ap (is_cyclic_set (edges v)) own_region

  -- the region of a component where it is cyclic
  pub is_cycle_of : (r : ℕ) → r ≡ region_of v c → is_cyclic v r ≡ true → IsCycleOf v c r
  is_cycle_of r is cyclic = subst (λ (n : ℕ). is_cyclic v n ≡ true → IsCycleOf v c n) (sym is) (λ yes. record {
    cyclic = sym own_cycle ∙ yes;
    within = number_within;
    members = own_region;
  }) cyclic

  pub no_cycle : (r : ℕ) → r ≡ region_of v c → is_cyclic v r ≡ false → is_in_cycle v c ≡ false
  no_cycle r is acyclic = sym own_cycle ∙ ap (is_cyclic v) (sym is) ∙ acyclic
