-- Where a first place can be, and what it says that there is none.
use Rattle.std.proofs.Common.{◌≡◌, ◌≢◌, ◌≤◌, ◌<◌, ◌+◌, inl, inr, ℕ, suc, Bool, true, false, Option, None, Some, IfSome, List, [], ◌∷◌, length, arith, ap, sym, ◌∙◌}
use Rattle.std.proofs.lemmas.Bool.{cases_Bool}
use Rattle.blz_value.specs.Members.{Has}
use Rattle.blz_value.specs.FirstPlace.{first_place}

-- the test holds at no element
abbrev pub NoneBad : {X : Type 0} → (ℕ → X → Bool) → ℕ → List X → Type 0
NoneBad test at [] = Unit {0}
NoneBad test at (x ∷ xs) = (test at x ≡ false) × NoneBad test (at + 1) xs

module _ {X : Type 0} (test : ℕ → X → Bool) where
  pub none_bad : (at : ℕ) (xs : List X) → first_place test at xs ≡ None → NoneBad test at xs
  none_bad at [] e = tt
  none_bad at (x ∷ xs) e = elim (cases_Bool (test at x)) [
    | inl t ↦ let no : Some at ≡ None = rw t at e in cc
    | inr f ↦ (f, none_bad (at + 1) xs (rw f at e))
  ]

  -- a place lies in the list
  pub place-below : (at : ℕ) (xs : List X) → IfSome (first_place test at xs) (λ i. i < at + length xs)
  place-below at [] = tt
  place-below at (x ∷ xs) = elim (cases_Bool (test at x)) [
    | inl t ↦ rw t (omega arith)
    | inr f ↦ rw f (weaker (first_place test (at + 1) xs) (place-below (at + 1) xs))
  ]
    where
      weaker : (o : Option ℕ) → IfSome o (λ i. i < at + 1 + length xs) → IfSome o (λ i. i < at + suc (length xs))
      weaker None h = tt
      weaker (Some i) h = omega arith

  lower : (n : ℕ) → ((x : X) → test n x ≡ true) → (at : ℕ) (x : X) → at ≤ n → test at x ≡ false → at + 1 ≤ n
  lower n always at x le f = let other : at ≢ n = (λ e. let t : test at x ≡ true = rw e (always x) in cc) in omega (arith, other)

  -- where the test holds of each element with the number n, a place is at most n
  pub place-at_most : (n : ℕ) → ((x : X) → test n x ≡ true) → (at : ℕ) (xs : List X) → at ≤ n → IfSome (first_place test at xs) (λ i. i ≤ n)
  place-at_most n always at [] le = tt
  place-at_most n always at (x ∷ xs) le = elim (cases_Bool (test at x)) [
    | inl t ↦ rw t le
    | inr f ↦ rw f (place-at_most n always (at + 1) xs (lower n always at x le f))
  ]

  -- and where there is none, the list ends before
  pub length-at_most : (n : ℕ) → ((x : X) → test n x ≡ true) → (at : ℕ) (xs : List X) → at ≤ n → first_place test at xs ≡ None → at + length xs ≤ n
  length-at_most n always at [] le e = omega arith
  length-at_most n always at (x ∷ xs) le e = elim (cases_Bool (test at x)) [
    | inl t ↦ let no : Some at ≡ None = rw t at e in cc
    | inr f ↦ let more : at + 1 + length xs ≤ n = length-at_most n always (at + 1) xs (lower n always at x le f) (rw f at e) in omega arith
  ]

-- a test that doesn't look at the number fails at each element
pub none_has : {X : Type 0} (test : X → Bool) (bad : ℕ → X → Bool) → ((i : ℕ) (x : X) → bad i x ≡ test x) → (at : ℕ) (xs : List X) → first_place bad at xs ≡ None → (x : X) → Has x xs → test x ≡ false
none_has {X} test bad same at xs e x stands = go at xs (none_bad bad at xs e) stands
  where
    go : (at : ℕ) (ys : List X) → NoneBad bad at ys → Has x ys → test x ≡ false
    go at [] none n = absurd n
    go at (y ∷ ys) none (inl e) = ap test (sym e) ∙ sym (same at y) ∙ none.0
    go at (y ∷ ys) none (inr n) = go (at + 1) ys none.1 n
