-- Each region is that of a component, and has no member of an earlier one.
use Rattle.std.proofs.Common.{◌≡◌, ◌≤◌, ◌<◌, ◌⊎◌, inl, inr, ℕ, zero, suc, not, ◌||◌, Bool, true, false, Option, None, Some, List, [], ◌∷◌, refl, arith, sym, subst, ◌∙◌, bit_or}
use Rattle.std.specs.List.{find}
use Rattle.std.proofs.lemmas.Bool.{cases_Bool, or_cases, true≢false}
use Rattle.blz_value.specs.declared.attrs.Fd.{Fd}
use Rattle.blz_value.proofs.Members.{in-or, in-empty, member_small}
use Rattle.blz_value.specs.Members.{Has}
use Rattle.bloom_forms.proofs.Collections.Chosen.{from_chosen}
use Rattle.blz_value.specs.Graph.{Edge, arrows, is_in, together, region, is_blocked, is_next, next, regions_from, numbered_regions}
use Rattle.blz_value.specs.NumberSets.{below}
use Rattle.blz_value.proofs.Booleans.{not_true as not_so, both_true, or_right as or_second}
use Rattle.blz_value.proofs.Ranges.{Has-below as from_below}
use Rattle.topo_forms.proofs.Regions.Classes.{together-sym, together-trans, region-is}

-- each set is the region of a node, and has none of those before it
abbrev pub AreFresh : List Fd → (count done : ℕ) → List ℕ → Type 0
AreFresh ar count done [] = Unit {0}
AreFresh ar count done (set ∷ sets) = ((c : ℕ) × (c < count) × (set ≡ region ar count c)) × (((d : ℕ) → is_in d set ≡ true → is_in d done ≡ false) × AreFresh ar count (bit_or done set) sets)

pub find-some : {X : Type 0} (p : X → Bool) (xs : List X) (x : X) → find p xs ≡ Some x → Has x xs × (p x ≡ true)
find-some p [] x e = absurd (let bad : None ≡ Some x = e in cc)
find-some p (y ∷ xs) x e = elim (cases_Bool (p y)) [
  | inl t ↦ let same : Some y ≡ Some x = rw t at e in let one : y ≡ x = cc in (inl one, subst (λ z. p z ≡ true) one t)
  | inr f ↦ let later = find-some p xs x (rw f at e) in (inr later.0, later.1)
]

module _ (count : ℕ) (edges : List Edge) (few : count ≤ 64) where
  abbrev ar : List Fd
  ar = arrows edges

  -- with a node all that is together with it is there
  abbrev IsWhole : ℕ → Type 0
  IsWhole done = (c d : ℕ) → c < count → d < count → is_in c done ≡ true → together ar c d ≡ true → is_in d done ≡ true

  in_region : (c d : ℕ) → d < count → is_in d (region ar count c) ≡ together ar c d
  in_region c d ld = region-is ar count c d few ld

  member_low : (c d : ℕ) → is_in d (region ar count c) ≡ true → d < count
  member_low c d h =
      let chosen = from_chosen (together ar c) (λ n. n) (below count) d (member_small d (region ar count c) h) h in
      subst (λ (n : ℕ). n < count) chosen.is (from_below count chosen.element chosen.stands)

  whole_more : (done c : ℕ) → c < count → IsWhole done → IsWhole (bit_or done (region ar count c))
  whole_more done c lc whole x d lx ld here joined = go (or_cases (is_in x done) (is_in x (region ar count c)) (sym (in-or x done (region ar count c) (omega (arith, lx, few))) ∙ here))
    where
      put : (is_in d done || is_in d (region ar count c)) ≡ true → is_in d (bit_or done (region ar count c)) ≡ true
      put h = in-or d done (region ar count c) (omega (arith, ld, few)) ∙ h

      go : (is_in x done ≡ true) ⊎ (is_in x (region ar count c) ≡ true) → is_in d (bit_or done (region ar count c)) ≡ true
      go (inl before) = put (rw (whole x d lx ld before joined) refl)
      go (inr inside) =
          let first : together ar c x ≡ true = sym (in_region c x lx) ∙ inside in
          put (or_second (is_in d done) (is_in d (region ar count c)) (in_region c d ld ∙ together-trans ar c x d (omega (arith, lc, few)) (omega (arith, ld, few)) first joined))

  abbrev continued : ℕ → ℕ → Option ℕ → List ℕ
  continued left done None = []
  continued left done (Some c) = region ar count c ∷ regions_from edges ar count left (bit_or done (region ar count c))

  fresh : (left done : ℕ) → IsWhole done → AreFresh ar count done (regions_from edges ar count left done)
  fresh zero done whole = tt
  fresh (suc left) done whole = by (next edges ar count done) refl (λ d w. fresh left d w)
    where
      by : (o : Option ℕ) → next edges ar count done ≡ o → ((d : ℕ) → IsWhole d → AreFresh ar count d (regions_from edges ar count left d)) → AreFresh ar count done (regions_from edges ar count (suc left) done)
      by None e more = subst (λ (v : Option ℕ). AreFresh ar count done (continued left done v)) (sym e) tt
      by (Some c) e more =
          let p = find-some (is_next edges ar count done) (below count) c e in
          let lc : c < count = from_below count c p.0 in
          let unnumbered : is_in c done ≡ false = not_so (is_in c done) (both_true (not (is_in c done)) (not (is_blocked edges (region ar count c) done)) p.1).0 in
          subst (λ (v : Option ℕ). AreFresh ar count done (continued left done v)) (sym e)
          ((c, lc, refl), ((λ d h. apart c lc unnumbered d h), more (bit_or done (region ar count c)) (whole_more done c lc whole)))
        where
          apart : (c : ℕ) → c < count → is_in c done ≡ false → (d : ℕ) → is_in d (region ar count c) ≡ true → is_in d done ≡ false
          apart c lc unnumbered d h =
              let ld = member_low c d h in
              let joined : together ar c d ≡ true = sym (in_region c d ld) ∙ h in
              elim (cases_Bool (is_in d done)) [
                | inr out ↦ out
                | inl in_it ↦ absurd (true≢false (sym (whole d c ld lc in_it (together-sym ar c d joined)) ∙ unnumbered))
              ]

  pub are_fresh : AreFresh ar count 0 (numbered_regions edges count)
  are_fresh = fresh count 0 (λ c d lc ld here joined. absurd (true≢false (sym here ∙ in-empty c)))
