-- A list in which one element is altered, and what doesn't see that.
use Rattle.std.proofs.Common.{◌≡◌, ◌≢◌, ◌<◌, ◌++◌, ◌||◌, ℕ, zero, suc, Bool, true, false, cond, Option, Some, List, [], ◌∷◌, length, map, take, get_or, refl, arith, ap}
use Rattle.std.specs.Prelude.{slice_set}
use Rattle.std.specs.List.{find, flat_map, filter_map, fold, list_any, position_or_len}
use Rattle.std.specs.Option.{option_and_then}

module _ {X : Type 0} (f : X → X) where
  -- the list with the element of a number altered
  abbrev pub altered : ℕ → List X → List X
  altered n [] = []
  altered zero (x ∷ xs) = f x ∷ xs
  altered (suc n) (x ∷ xs) = x ∷ altered n xs

  pub set-altered : (n : ℕ) (xs : List X) (d : X) → slice_set xs n (f (get_or xs n d)) ≡ altered n xs
  set-altered n [] d = refl
  set-altered zero (x ∷ xs) d = refl
  set-altered (suc n) (x ∷ xs) d = ap (λ (ys : List X). x ∷ ys) (set-altered n xs d)

  pub length-altered : (n : ℕ) (xs : List X) → length (altered n xs) ≡ length xs
  length-altered n [] = refl
  length-altered zero (x ∷ xs) = refl
  length-altered (suc n) (x ∷ xs) = ap suc (length-altered n xs)

  pub take-altered : (i n : ℕ) (xs : List X) → take i (altered n xs) ≡ altered n (take i xs)
  take-altered zero n [] = refl
  take-altered (suc i) n [] = refl
  take-altered zero zero (x ∷ xs) = refl
  take-altered zero (suc n) (x ∷ xs) = refl
  take-altered (suc i) zero (x ∷ xs) = refl
  take-altered (suc i) (suc n) (x ∷ xs) = ap (λ (ys : List X). x ∷ ys) (take-altered i n xs)

  pub at-altered : (n : ℕ) (xs : List X) (d : X) → n < length xs → get_or (altered n xs) n d ≡ f (get_or xs n d)
  at-altered n [] d lt = absurd (omega (arith, lt))
  at-altered zero (x ∷ xs) d lt = refl
  at-altered (suc n) (x ∷ xs) d lt = at-altered n xs d (omega (arith, lt))

  pub other-altered : (n i : ℕ) (xs : List X) (d : X) → i ≢ n → get_or (altered n xs) i d ≡ get_or xs i d
  other-altered n i [] d apart = refl
  other-altered zero zero (x ∷ xs) d apart = absurd (apart refl)
  other-altered zero (suc i) (x ∷ xs) d apart = refl
  other-altered (suc n) zero (x ∷ xs) d apart = refl
  other-altered (suc n) (suc i) (x ∷ xs) d apart = other-altered n i xs d (λ e. apart (ap suc e))

  -- what the alteration goes through
  pub map-altered : {Y : Type 0} (h : X → Y) (g : Y → Y) → ((x : X) → h (f x) ≡ g (h x)) → (n : ℕ) (xs : List X) (d : Y) → map h (altered n xs) ≡ slice_set (map h xs) n (g (get_or (map h xs) n d))
  map-altered h g through n [] d = refl
  map-altered {Y = Y} h g through zero (x ∷ xs) d = ap (λ (y : Y). y ∷ map h xs) (through x)
  map-altered {Y = Y} h g through (suc n) (x ∷ xs) d = ap (λ (ys : List Y). h x ∷ ys) (map-altered h g through n xs d)

  -- ---- what doesn't see it

  module _ {Y : Type 0} (h : X → Y) (same : (x : X) → h (f x) ≡ h x) where
    pub at-same : (n i : ℕ) (xs : List X) (d : X) → h (get_or (altered n xs) i d) ≡ h (get_or xs i d)
    at-same n i [] d = refl
    at-same zero zero (x ∷ xs) d = same x
    at-same zero (suc i) (x ∷ xs) d = refl
    at-same (suc n) zero (x ∷ xs) d = refl
    at-same (suc n) (suc i) (x ∷ xs) d = at-same n i xs d

  pub flat_map-same : {Y : Type 0} (h : X → List Y) → ((x : X) → h (f x) ≡ h x) → (n : ℕ) (xs : List X) → flat_map h (altered n xs) ≡ flat_map h xs
  flat_map-same h same n [] = refl
  flat_map-same {Y = Y} h same zero (x ∷ xs) = ap (λ (ys : List Y). ys ++ flat_map h xs) (same x)
  flat_map-same {Y = Y} h same (suc n) (x ∷ xs) = ap (λ (ys : List Y). h x ++ ys) (flat_map-same h same n xs)

  pub filter_map-same : {Y : Type 0} (h : X → Option Y) → ((x : X) → h (f x) ≡ h x) → (n : ℕ) (xs : List X) → filter_map h (altered n xs) ≡ filter_map h xs
  filter_map-same h same n [] = refl
  filter_map-same h same zero (x ∷ xs) = rw (same x) refl
  filter_map-same h same (suc n) (x ∷ xs) = rw (filter_map-same h same n xs) refl

  pub fold-same : {Y : Type 0} (step : Y → X → Y) → ((y : Y) (x : X) → step y (f x) ≡ step y x) → (y : Y) (n : ℕ) (xs : List X) → fold step y (altered n xs) ≡ fold step y xs
  fold-same step same y n [] = refl
  fold-same step same y zero (x ∷ xs) = ap (λ z. fold step z xs) (same y x)
  fold-same step same y (suc n) (x ∷ xs) = fold-same step same (step y x) n xs

  module _ (p : X → Bool) (same : (x : X) → p (f x) ≡ p x) where
    pub any-same : (n : ℕ) (xs : List X) → list_any p (altered n xs) ≡ list_any p xs
    any-same n [] = refl
    any-same zero (x ∷ xs) = ap (λ (b : Bool). b || list_any p xs) (same x)
    any-same (suc n) (x ∷ xs) = ap (λ (b : Bool). p x || b) (any-same n xs)

    pub place-same : (n : ℕ) (xs : List X) → position_or_len p (altered n xs) ≡ position_or_len p xs
    place-same n [] = refl
    place-same zero (x ∷ xs) = rw (same x) refl
    place-same (suc n) (x ∷ xs) = rw (place-same n xs) refl

    pub found-same : {Y : Type 0} (h : X → Option Y) → ((x : X) → h (f x) ≡ h x) → (n : ℕ) (xs : List X) → option_and_then h (find p (altered n xs)) ≡ option_and_then h (find p xs)
    found-same h alike n [] = refl
    found-same h alike zero (x ∷ xs) = rw (same x) (either (p x))
      where
        either : (b : Bool) → option_and_then h (cond b (Some (f x)) (find p xs)) ≡ option_and_then h (cond b (Some x) (find p xs))
        either true = alike x
        either false = refl
    found-same {Y = Y} h alike (suc n) (x ∷ xs) = either (p x) (found-same h alike n xs)
      where
        either : (b : Bool) → option_and_then h (find p (altered n xs)) ≡ option_and_then h (find p xs) → option_and_then h (cond b (Some x) (find p (altered n xs))) ≡ option_and_then h (cond b (Some x) (find p xs))
        either true e = refl
        either false e = e
