-- Where the first element stands at which a test holds, and what an element more at the end changes.
use Rattle.std.proofs.Common.{◌≡◌, ◌+◌, ℕ, suc, Bool, true, false, cond, None, Some, List, [], ◌∷◌, ◌++◌, length, get_or, slice_get, refl, ap, ◌∙◌, sym, inl, inr, arith}
use Rattle.std.specs.List.{position_from}
use Rattle.std.specs.Option.{is_some}
use Rattle.std.proofs.lemmas.Bool.{cases_Bool}
use Rattle.std.proofs.lemmas.Iterator.Adapters.{position_from-zero}
use Rattle.std.proofs.lemmas.List.Quantifiers.{position-Some}
use Rattle.std.proofs.lemmas.Option.{slice_get-get_or}
use Rattle.blz_value.specs.Members.{Has}

module _ {X : Type 0} (test : X → Bool) where
  -- the place has an element at which the test holds
  pub position_from-found : (xs : List X) (place : ℕ) (d : X) → position_from test 0 xs ≡ Some place → (slice_get xs place ≡ Some (get_or xs place d)) × (test (get_or xs place d) ≡ true)
  position_from-found xs place d e =
      let at = position-Some test xs place d (position_from-zero test xs ∙ e) in
      (slice_get-get_or xs place d at.0, at.1)

  -- where there is none, the test holds of no element
  pub position_from-none : (i : ℕ) (xs : List X) (x : X) → position_from test i xs ≡ None → Has x xs → test x ≡ false
  position_from-none i [] x none stands = absurd stands
  position_from-none i (y ∷ ys) x none stands = elim (cases_Bool (test y)) [
    | inl t ↦ (let bad : Some i ≡ None = rw t at none in cc)
    | inr f ↦ (let rest : position_from test (i + 1) ys ≡ None = rw f at none in go f (position_from-none (i + 1) ys x rest) stands)
  ]
    where
      go : test y ≡ false → (Has x ys → test x ≡ false) → Has x (y ∷ ys) → test x ≡ false
      go f rest (inl e) = ap test (sym e) ∙ f
      go f rest (inr n) = rest n

  -- an element more at the end counts where no other stood
  pub position_from-last : (i : ℕ) (xs : List X) (x : X) → position_from test i (xs ++ x ∷ []) ≡ cond (is_some (position_from test i xs)) (position_from test i xs) (cond (test x) (Some (i + length xs)) None)
  position_from-last i [] x = elim (test x) as (λ b. cond b (Some i) None ≡ cond b (Some (i + 0)) None) [ true ↦ ap Some (omega arith) | false ↦ refl ]
  position_from-last i (y ∷ ys) x = elim (cases_Bool (test y)) [
    | inl t ↦ rw t refl
    | inr f ↦ (let more : i + 1 + length ys ≡ i + suc (length ys) = omega arith in rw f (position_from-last (i + 1) ys x ∙ rw more refl))
  ]
