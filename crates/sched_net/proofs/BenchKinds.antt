-- What a bench answers goes by the kinds of its shells alone.
use Rattle.std.proofs.Common.{◌≡◌, ◌∙◌, ℕ, Bool, true, false, cond, ◌||◌, List, [], ◌∷◌, Option, Some, map, refl, ap}
use Rattle.std.specs.List.{list_any}
use Rattle.bloom_eval.specs.declared.kind.ProgramKind.{ProgramKind}
use Rattle.topo_forms.specs.View.{View}
use Rattle.sched_net.specs.Bench.{without_first, first_short, fits_component, fault_of_opening, fault_of_bodies, first_without_body, instance_components}

module _ {X K : Type 0} (kind : X → K) (fit : ℕ → K → Bool) where
  any_by_kinds : (c : ℕ) (xs : List X) → list_any (λ x. fit c (kind x)) xs ≡ list_any (fit c) (map kind xs)
  any_by_kinds c [] = refl
  any_by_kinds c (x ∷ xs) = ap (λ b. fit c (kind x) || b) (any_by_kinds c xs)

  without_by_kinds : (c : ℕ) (xs : List X) → map kind (without_first (λ x. fit c (kind x)) xs) ≡ without_first (fit c) (map kind xs)
  without_by_kinds c [] = refl
  without_by_kinds c (x ∷ xs) = elim (fit c (kind x)) as (λ t. map kind (cond t xs (x ∷ without_first (λ y. fit c (kind y)) xs)) ≡ cond t (map kind xs) (kind x ∷ without_first (fit c) (map kind xs))) [
    | true ↦ refl
    | false ↦ ap (λ (ks : List K). kind x ∷ ks) (without_by_kinds c xs)
  ]

  short_by_kinds : (cs : List ℕ) (xs : List X) → first_short (λ c x. fit c (kind x)) cs xs ≡ first_short fit cs (map kind xs)
  short_by_kinds [] xs = refl
  short_by_kinds (c ∷ cs) xs =
      ap (λ t. cond t (first_short (λ n x. fit n (kind x)) cs (without_first (λ x. fit c (kind x)) xs)) (Some c)) (any_by_kinds c xs)
      ∙ ap (λ (o : Option ℕ). cond (list_any (fit c) (map kind xs)) o (Some c)) (short_by_kinds cs (without_first (λ x. fit c (kind x)) xs) ∙ ap (first_short fit cs) (without_by_kinds c xs))

pub opening_by_kinds : {X : Type 0} (v : View) (kind : X → ProgramKind) (xs : List X) → fault_of_opening v kind xs ≡ fault_of_opening v (λ k. k) (map kind xs)
opening_by_kinds v kind xs = ap (fault_of_bodies (first_without_body v)) (short_by_kinds kind (fits_component v (λ k. k)) (instance_components v) xs)
