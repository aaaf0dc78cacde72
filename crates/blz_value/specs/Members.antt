-- Membership in a list.
use Rattle.std.specs.Prelude.{◌≡◌, ◌⊎◌, List, [], ◌∷◌}

-- q is an element of the list
abbrev pub Has : {X : Type 0} → X → List X → Type 0
Has q [] = ⊥
Has q (x ∷ xs) = (x ≡ q) ⊎ Has q xs

-- each element of the first list is one of the second
abbrev pub IsWithin : {X : Type 0} → List X → List X → Type 0
IsWithin {X} xs ys = (q : X) → Has q xs → Has q ys

-- the lists have the same elements
abbrev pub HaveEqualMembers : {X : Type 0} → List X → List X → Type 0
HaveEqualMembers xs ys = IsWithin xs ys × IsWithin ys xs
