-- What a test needs of a list: in passes, each from the last element to the first, the elements go without which the list still passes.
use Rattle.std.specs.Prelude.{◌≡◌, ◌⊎◌, ℕ, zero, suc, Bool, if◌then◌else◌, List, [], ◌∷◌, length}
use Rattle.std.specs.List.{remove}

-- the list without the element at a place, where that passes the test, and else as it is
abbrev pub without_needless : {X : Type 0} → (test : List X → Bool) → (place : ℕ) → List X → List X
without_needless test place xs = if test (remove xs place) then remove xs place else xs

-- so from the last of the first so many places down to the first
abbrev pub passed_below : {X : Type 0} → (test : List X → Bool) → (count : ℕ) → List X → List X
passed_below test zero xs = xs
passed_below test (suc place) xs = passed_below test place (without_needless test place xs)

-- one pass: from the last element to the first
abbrev pub one_pass : {X : Type 0} → (test : List X → Bool) → List X → List X
one_pass test xs = passed_below test (length xs) xs

-- so many passes
abbrev pub passes : {X : Type 0} → (test : List X → Bool) → (count : ℕ) → List X → List X
passes test zero xs = xs
passes test (suc count) xs = passes test count (one_pass test xs)

-- passes until one drops nothing: as many as there are elements, since after such a one none drops anything
abbrev pub trim_by : {X : Type 0} → (test : List X → Bool) → List X → List X
trim_by test xs = passes test (length xs) xs

-- some of the elements of a list, in its order: the first of the list is left out, or comes first
abbrev pub IsSublist : {X : Type 0} → (kept whole : List X) → Type 0
IsSublist kept [] = kept ≡ []
IsSublist {X} kept (x ∷ xs) = IsSublist kept xs ⊎ ((rest : List X) × (kept ≡ x ∷ rest) × IsSublist rest xs)
