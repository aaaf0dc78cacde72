-- A trimmed list is left by a further pass as it is: it passes the test, and without any one of its elements it doesn't.
use Rattle.std.proofs.Common.{◌≡◌, refl, ap, sym, subst, ◌∙◌, ℕ, zero, suc, ◌+◌, ◌-◌, ◌<◌, ◌≤◌, Bool, true, false, nat_lt, List, [], ◌∷◌, length, arith, inl, inr, ◌⊎◌}
use Rattle.std.specs.Prelude.{if◌then◌else◌}
use Rattle.std.specs.List.{remove}
use Rattle.std.proofs.lemmas.Bool.{cases_lt}
use Rattle.std.proofs.lemmas.Bool.Decides.{nat_tests}
use Rattle.std.proofs.lemmas.List.Edits.{length-remove}
use Rattle.why_trace.specs.Passes.{without_needless, passed_below, one_pass, passes, trim_by}

module _ {X : Type 0} (test : List X → Bool) where
  -- ---- a pass changes nothing, or the list gets shorter

  removed : (xs : List X) (place : ℕ) → (remove xs place ≡ xs) ⊎ (length (remove xs place) < length xs)
  removed [] zero = inl refl
  removed [] (suc place) = inl refl
  removed (x ∷ xs) zero = inr (omega arith)
  removed (x ∷ xs) (suc place) = elim (removed xs place) [
    | inl same ↦ inl (ap (λ l. x ∷ l) same)
    | inr shorter ↦ inr (omega (arith, shorter))
  ]

  chosen : (xs : List X) (place : ℕ) (b : Bool) → ((if b then remove xs place else xs) ≡ xs) ⊎ (length (if b then remove xs place else xs) < length xs)
  chosen xs place true = removed xs place
  chosen xs place false = inl refl

  below : (place : ℕ) (xs : List X) → (passed_below test place xs ≡ xs) ⊎ (length (passed_below test place xs) < length xs)
  below zero xs = inl refl
  below (suc place) xs =
      let next : List X = without_needless test place xs in
      elim (chosen xs place (test (remove xs place))) [
        | inl same ↦ elim (below place next) [
          | inl rest ↦ inl (rest ∙ same)
          | inr shorter ↦ inr (subst (λ l. length (passed_below test place next) < length l) same shorter)
        ]
        | inr fewer ↦ elim (below place next) [
          | inl rest ↦ inr (subst (λ l. length l < length xs) (sym rest) fewer)
          | inr shorter ↦ inr (omega (arith, shorter, fewer))
        ]
      ]

  -- a pass that leaves as many changes nothing
  pub same_after : (xs : List X) → length xs ≤ length (one_pass test xs) → one_pass test xs ≡ xs
  same_after xs many = elim (below (length xs) xs) [
    | inl same ↦ same
    | inr shorter ↦ absurd (omega (arith, many, shorter))
  ]

  -- ---- further passes

  same_passes : (count : ℕ) (xs : List X) → one_pass test xs ≡ xs → passes test count xs ≡ xs
  same_passes zero xs same = refl
  same_passes (suc count) xs same = ap (passes test count) same ∙ same_passes count xs same

  enough : (count : ℕ) (xs : List X) → length xs ≤ count → one_pass test (passes test count xs) ≡ passes test count xs
  enough zero [] few = refl
  enough zero (x ∷ xs) few = absurd (omega (arith, few))
  enough (suc count) xs few = elim (below (length xs) xs) [
    | inl same ↦
        let all : passes test (suc count) xs ≡ xs = same_passes (suc count) xs same in
        ap (one_pass test) all ∙ same ∙ sym all
    | inr shorter ↦ enough count (one_pass test xs) (omega (arith, shorter, few))
  ]

  pub trimmed_stays : (xs : List X) → one_pass test (trim_by test xs) ≡ trim_by test xs
  trimmed_stays xs = enough (length xs) xs (omega arith)

  passes-add : (m k : ℕ) (xs : List X) → passes test (m + k) xs ≡ passes test k (passes test m xs)
  passes-add zero k xs = let e : zero + k ≡ k = omega arith in ap (λ n. passes test n xs) e
  passes-add (suc m) k xs = let e : suc m + k ≡ suc (m + k) = omega arith in ap (λ n. passes test n xs) e ∙ passes-add m k (one_pass test xs)

  -- passes that are many enough trim
  many_passes : (count : ℕ) (xs : List X) → length xs ≤ count → passes test count xs ≡ trim_by test xs
  many_passes count xs few =
      let e : count ≡ length xs + (count - length xs) = omega (arith, few) in
      ap (λ n. passes test n xs) e ∙ passes-add (length xs) (count - length xs) xs ∙ same_passes (count - length xs) (trim_by test xs) (trimmed_stays xs)

  -- a list that a pass leaves as it is is trimmed
  pub trimmed_already : (xs : List X) → one_pass test xs ≡ xs → trim_by test xs ≡ xs
  trimmed_already xs same = same_passes (length xs) xs same

  -- a pass that made it shorter was one of those that trim
  pub trims_on : (xs : List X) → length (one_pass test xs) < length xs → trim_by test (one_pass test xs) ≡ trim_by test xs
  trims_on [] fewer = absurd (omega (arith, fewer))
  trims_on (x ∷ xs) fewer = sym (many_passes (length xs) (one_pass test (x ∷ xs)) (omega (arith, fewer)))

  -- ---- passes in a loop, which ends where one leaves as many

  pub shorter_after : (old new : List X) (fewer : Bool) → fewer ≡ nat_lt (length new) (length old) → fewer ≡ true → length new < length old
  shorter_after old new fewer told is = let e : nat_lt (length new) (length old) ≡ true = sym told ∙ is in grind (arith, nat_tests)

  pub trims_further : (old new first : List X) (fewer : Bool) → new ≡ one_pass test old → fewer ≡ nat_lt (length new) (length old) → fewer ≡ true → trim_by test old ≡ trim_by test first → trim_by test new ≡ trim_by test first
  trims_further old new first fewer passed told is before =
      ap (trim_by test) passed ∙ trims_on old (subst (λ l. length l < length old) passed (shorter_after old new fewer told is)) ∙ before

  pub trimmed_last : (old new first : List X) (fewer : Bool) → new ≡ one_pass test old → fewer ≡ nat_lt (length new) (length old) → fewer ≡ false → trim_by test old ≡ trim_by test first → new ≡ trim_by test first
  trimmed_last old new first fewer passed told is before =
      let e : nat_lt (length new) (length old) ≡ false = sym told ∙ is in
      let many : length old ≤ length new = grind (arith, nat_tests) in
      let same = same_after old (subst (λ l. length old ≤ length l) passed many) in
      passed ∙ same ∙ sym (trimmed_already old same) ∙ before

  -- ---- one pass in a loop over the places

  pub passed_on : (place : ℕ) (xs ys whole : List X) → 0 < place → ys ≡ without_needless test (place - 1) xs → passed_below test place xs ≡ whole → passed_below test (place - 1) ys ≡ whole
  passed_on zero xs ys whole some is rest = absurd (omega (arith, some))
  passed_on (suc place) xs ys whole some is rest =
      let e : suc place - 1 ≡ place = omega arith in
      ap (λ n. passed_below test n ys) e ∙ ap (passed_below test place) (is ∙ ap (λ n. without_needless test n xs) e) ∙ rest

  long_chosen : (xs : List X) (place : ℕ) (b : Bool) → place < length xs → place ≤ length (if b then remove xs place else xs)
  long_chosen xs place true within = omega (arith, length-remove xs place within)
  long_chosen xs place false within = omega (arith, within)

  pub place_inside : (place : ℕ) (xs ys : List X) → place < length xs → ys ≡ without_needless test place xs → place ≤ length ys
  place_inside place xs ys within is = subst (λ l. place ≤ length l) (sym is) (long_chosen xs place (test (remove xs place)) within)

  -- ---- it passes the test, and without any one of its elements it doesn't

  kept_passing : (xs : List X) (place : ℕ) (b : Bool) → test (remove xs place) ≡ b → test xs ≡ true → test (if b then remove xs place else xs) ≡ true
  kept_passing xs place true e passing = e
  kept_passing xs place false e passing = passing

  below_passes : (place : ℕ) (xs : List X) → test xs ≡ true → test (passed_below test place xs) ≡ true
  below_passes zero xs passing = passing
  below_passes (suc place) xs passing = below_passes place (without_needless test place xs) (kept_passing xs place (test (remove xs place)) refl passing)

  all_pass : (count : ℕ) (xs : List X) → test xs ≡ true → test (passes test count xs) ≡ true
  all_pass zero xs passing = passing
  all_pass (suc count) xs passing = all_pass count (one_pass test xs) (below_passes (length xs) xs passing)

  pub trimmed_passes : (xs : List X) → test xs ≡ true → test (trim_by test xs) ≡ true
  trimmed_passes xs passing = all_pass (length xs) xs passing

  -- where a pass from this place down changes nothing, nothing was needless there
  none_needless : (place : ℕ) (xs : List X) → place < length xs + 1 → passed_below test place xs ≡ xs → (k : ℕ) → k < place → test (remove xs k) ≡ false
  none_needless zero xs within same k lt = absurd (omega (arith, lt))
  none_needless (suc place) xs within same k lt =
      elim (test (remove xs place)) as (λ b. test (remove xs place) ≡ b → test (remove xs k) ≡ false) [
        | true ↦ λ e.
            let next_is : without_needless test place xs ≡ remove xs place = ap (λ b. if b then remove xs place else xs) e in
            let fewer : length (remove xs place) + 1 ≡ length xs = length-remove xs place (omega (arith, within)) in
            let same_next : passed_below test place (remove xs place) ≡ xs = sym (ap (passed_below test place) next_is) ∙ same in
            let longer : length (passed_below test place (remove xs place)) ≡ length xs = ap length same_next in
            absurd (elim (below place (remove xs place)) [
              | inl is ↦ let l : length (passed_below test place (remove xs place)) ≡ length (remove xs place) = ap length is in omega (arith, l, longer, fewer)
              | inr shorter ↦ omega (arith, shorter, longer, fewer)
            ])
        | false ↦ λ e.
            let next_is : without_needless test place xs ≡ xs = ap (λ b. if b then remove xs place else xs) e in
            let same_below : passed_below test place xs ≡ xs = sym (ap (passed_below test place) next_is) ∙ same in
            elim (cases_lt k place) [
              | inl earlier ↦ none_needless place xs (omega (arith, within)) same_below k earlier
              | inr later ↦ let is : place ≡ k = omega (arith, later, lt) in subst (λ n. test (remove xs n) ≡ false) is e
            ]
      ] refl

  pub trimmed_needs : (xs : List X) (k : ℕ) → k < length (trim_by test xs) → test (remove (trim_by test xs) k) ≡ false
  trimmed_needs xs k lt = none_needless (length (trim_by test xs)) (trim_by test xs) (omega arith) (trimmed_stays xs) k lt
