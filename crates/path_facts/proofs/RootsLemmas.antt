-- Roots of lists of columns.
use Rattle.std.proofs.Common.{◌&&◌, eq-eqb, ◌≡◌, ◌<◌, ◌+◌, ℕ, suc, Bool, true, false, not, if◌then◌else◌, Option, None, Some, List, [], ◌∷◌, ◌++◌, length, map, filter, take, drop, get_or, refl, ap, ◌∙◌, sym, arith}
use Rattle.std.specs.List.{list_all, enumerate_from, remove, take-map, drop-map}
use Rattle.std.proofs.lemmas.List.{drop_more, map-append}
use Rattle.blz_value.specs.Operators.{Pairs, is_paired}
use Rattle.bloom_forms.specs.HeadRoots.{agreed_root}
use Rattle.bloom_forms.specs.Roots.{Roots, root_at, are_same, no_roots}

-- to remove a place and to map
pub map_remove : {X Y : Type 0} (f : X → Y) (xs : List X) (i : ℕ) → map f (remove xs i) ≡ remove (map f xs) i
map_remove f xs i = map-append f (take i xs) (drop (suc i) xs) ∙ (λ k. sym (take-map f i xs) k ++ sym (drop-map f (suc i) xs) k)

-- the root that all rules give, told the first of them
first_agrees : (root : Option ℕ) (test : Bool) → (if are_same root root && test then root else None) ≡ (if test then root else None)
first_agrees None true = refl
first_agrees None false = refl
first_agrees (Some a) test = ap (λ (same : Bool). if same && test then Some a else None) (eq-eqb a a refl)

pub agreed_by : (given : List Roots) (first : Roots) (number : ℕ) → 0 < length given → first ≡ get_or given 0 first
    → agreed_root given number ≡ (if list_all (λ other. are_same (root_at first number) (root_at other number)) given then root_at first number else None)
agreed_by [] first number filled is = absurd (omega (arith, filled))
agreed_by (x ∷ xs) first number filled is =
    sym (first_agrees (root_at x number) (list_all (λ other. are_same (root_at x number) (root_at other number)) xs))
    ∙ ap (λ (roots : Roots). if list_all (λ other. are_same (root_at roots number) (root_at other number)) (x ∷ xs) then root_at roots number else None) (sym is)

-- no roots for the right columns from a place on that stand in no pair
abbrev pub unpaired_from : Pairs → ℕ → Roots → Roots
unpaired_from pairs i right = no_roots (map (λ (place : ℕ × Option ℕ). place.1) (filter (λ (place : ℕ × Option ℕ). not (is_paired pairs place.0)) (enumerate_from i (drop i right))))

pub unpaired_step : (pairs : Pairs) (right : Roots) (i : ℕ) → i < length right
    → unpaired_from pairs i right ≡ (if not (is_paired pairs i) then None ∷ [] else []) ++ unpaired_from pairs (i + 1) right
unpaired_step pairs right i below = ap (λ (l : Roots). no_roots (map (λ (place : ℕ × Option ℕ). place.1) (filter (λ (place : ℕ × Option ℕ). not (is_paired pairs place.0)) (enumerate_from i l)))) (drop_more right i None below) ∙ by (not (is_paired pairs i))
  where
    later : List (ℕ × Option ℕ)
    later = filter (λ (place : ℕ × Option ℕ). not (is_paired pairs place.0)) (enumerate_from (i + 1) (drop (i + 1) right))

    by : (b : Bool) → no_roots (map (λ (place : ℕ × Option ℕ). place.1) (if b then (i, get_or right i None) ∷ later else later)) ≡ (if b then None ∷ [] else []) ++ no_roots (map (λ (place : ℕ × Option ℕ). place.1) later)
    by true = refl
    by false = refl
