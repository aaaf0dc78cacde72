-- Names and their places in a list.
use Rattle.std.proofs.Common.{◌≡◌, ◌≢◌, ◌<◌, ℕ, zero, suc, ◌+◌, Bool, true, false, refl, arith, List, [], ◌∷◌, ◌++◌, length, length-append, get_or, slice_get, Option, Some, None, IfSome, IsNone, ap, ◌∙◌, subst, ◌⊎◌, inl, inr}
use Rattle.std.specs.List.{position_from}
use Rattle.std.specs.Str.{bytes_eq}
use Rattle.std.proofs.lemmas.Bool.{cases_Bool}
use Rattle.std.proofs.lemmas.Iterator.Adapters.{position_from-zero}
use Rattle.std.proofs.lemmas.List.Quantifiers.{position-Some, all_pairs_push}
use Rattle.std.proofs.lemmas.Option.{slice_get-get_or}
use Rattle.std.proofs.lemmas.Slice.Eq.{bytes_eq-Decides}
use Rattle.std.proofs.Math.Seq.{get_or-append_seam}
use Rattle.blz_value.specs.Members.{Has}
use Rattle.blz_value.specs.Names.{IsNameList, place_of}

bytes_eq-refl : (a : List ℕ) → bytes_eq a a ≡ true
bytes_eq-refl a = grind (arith, bytes_eq-Decides a a)

get-has : {X : Type 0} (xs : List X) (i : ℕ) (d : X) → i < length xs → Has (get_or xs i d) xs
get-has [] i d lt = absurd (omega arith)
get-has (x ∷ xs) zero d lt = inl refl
get-has (x ∷ xs) (suc i) d lt = inr (get-has xs i d (omega arith))

position_from-none : {X : Type 0} (t : X → Bool) (i : ℕ) (xs : List X) (x : X) → position_from t i xs ≡ None → Has x xs → t x ≡ false
position_from-none t i [] x none stands = absurd stands
position_from-none {X = X} t i (y ∷ ys) x none stands = elim (cases_Bool (t y)) [
  | inl f ↦ (let bad : Some i ≡ None = rw f at none in cc)
  | inr f ↦ go f (position_from-none t (i + 1) ys x (rw f at none)) stands
]
  where
    go : t y ≡ false → (Has x ys → t x ≡ false) → (y ≡ x) ⊎ Has x ys → t x ≡ false
    go f rest (inl e) = subst (λ (z : X). t z ≡ false) e f
    go f rest (inr n) = rest n

-- a name is found at its place, and exactly where it is held

found : (names : List (List ℕ)) (name : List ℕ) (place : ℕ) → place_of names name ≡ Some place → (place < length names) × (get_or names place name ≡ name)
found names name place e =
    let at = position-Some (λ held. bytes_eq held name) names place name (position_from-zero (λ held. bytes_eq held name) names ∙ e) in
    (at.0, (bytes_eq-Decides (get_or names place name) name).0 at.1)

pub place_of-get : (names : List (List ℕ)) (name : List ℕ) → IfSome (place_of names name) (λ place. slice_get names place ≡ Some name)
place_of-get names name = go (place_of names name) refl
  where
    go : (o : Option ℕ) → place_of names name ≡ o → IfSome o (λ place. slice_get names place ≡ Some name)
    go None e = tt
    go (Some place) e = let is = found names name place e in slice_get-get_or names place name is.0 ∙ ap Some is.1

pub place_of-none : (names : List (List ℕ)) (name : List ℕ) → IsNone (place_of names name) → Has name names → ⊥
place_of-none names name none stands = go (place_of names name) refl none
  where
    go : (o : Option ℕ) → place_of names name ≡ o → IsNone o → ⊥
    go None e none = let other : bytes_eq name name ≡ false = position_from-none (λ held. bytes_eq held name) 0 names name e stands in let same : bytes_eq name name ≡ true = bytes_eq-refl name in let bad : true ≡ false = cc in cc
    go (Some place) e none = let bad : true ≡ false = none in cc

pub place_of-new : (names : List (List ℕ)) (name : List ℕ) → (Has name names → ⊥) → IsNone (place_of names name)
place_of-new names name new = go (place_of names name) refl
  where
    go : (o : Option ℕ) → place_of names name ≡ o → IsNone o
    go None e = refl
    go (Some place) e = absurd (let is = found names name place e in new (subst (λ (x : List ℕ). Has x names) is.1 (get-has names place name is.0)))

-- a new name goes last

position_from-last : {X : Type 0} (t : X → Bool) (i : ℕ) (xs : List X) (x : X) → position_from t i xs ≡ None → t x ≡ true → position_from t i (xs ++ x ∷ []) ≡ Some (i + length xs)
position_from-last t i [] x none e = rw e (ap Some (omega arith))
position_from-last t i (y ∷ ys) x none e = elim (cases_Bool (t y)) [
  | inl f ↦ (let bad : Some i ≡ None = rw f at none in cc)
  | inr f ↦ rw f (position_from-last t (i + 1) ys x (rw f at none) e ∙ ap Some (omega arith))
]

pub slice_get-last : (names : List (List ℕ)) (name : List ℕ) → slice_get (names ++ name ∷ []) (length names) ≡ Some name
slice_get-last names name = slice_get-get_or (names ++ name ∷ []) (length names) name (simp length-append (omega arith)) ∙ ap Some (get_or-append_seam names name [] name)

pub place_of-last : (names : List (List ℕ)) (name : List ℕ) → place_of names name ≡ None → place_of (names ++ name ∷ []) name ≡ Some (length names)
place_of-last names name none = position_from-last (λ held. bytes_eq held name) 0 names name none (bytes_eq-refl name) ∙ ap Some (omega arith)

pub IsNameList-push : (names : List (List ℕ)) (name : List ℕ) → IsNameList names → length names ≢ 64 → (Has name names → ⊥) → IsNameList (names ++ name ∷ [])
IsNameList-push names name list room new = record {
  few = simp length-append (omega (arith, list.few));
  distinct = all_pairs_push (λ a b. a ≢ b) names name list.distinct (λ k d lt same. new (subst (λ (x : List ℕ). Has x names) same (get-has names k d lt)));
}
