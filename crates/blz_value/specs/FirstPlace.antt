-- The first place in a list at which a test holds.
use Rattle.std.specs.Prelude.{ℕ, ◌+◌, Bool, if◌then◌else◌, Option, None, Some, List, [], ◌∷◌}

-- the number of the first element at which the test holds, where the first of the list has the number `at`
abbrev pub first_place : {X : Type 0} → (ℕ → X → Bool) → ℕ → List X → Option ℕ
first_place test at [] = None
first_place test at (x ∷ xs) = if test at x then Some at else first_place test (at + 1) xs
