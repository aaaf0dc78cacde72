-- The first of the parts into which a list is split, and the parts behind it.
use Rattle.std.proofs.Common.{◌≡◌, ℕ, Bool, not, List, [], ◌∷◌, take, drop, refl, ap, one-add, inl, inr}
use Rattle.std.specs.List.{slice_split, prefix_len, onto_first}
use Rattle.std.proofs.lemmas.Bool.{cases_Bool}

module _ {X : Type 0} (p : X → Bool) where
  -- how many elements stand before the first at which the list is split
  abbrev pub front_size : List X → ℕ
  front_size xs = prefix_len (λ x. not (p x)) xs

  -- the parts behind the first, where this is left of the list behind the first part
  abbrev pub parts_behind : List X → List (List X)
  parts_behind [] = []
  parts_behind (x ∷ xs) = slice_split p xs

  pub slice_split-front : (xs : List X) → slice_split p xs ≡ take (front_size xs) xs ∷ parts_behind (drop (front_size xs) xs)
  slice_split-front [] = refl
  slice_split-front (x ∷ xs) = elim (cases_Bool (p x)) [
    | inl t ↦ rw t refl
    | inr f ↦ (let more : onto_first x (slice_split p xs) ≡ (x ∷ take (front_size xs) xs) ∷ parts_behind (drop (front_size xs) xs) = ap (onto_first x) (slice_split-front xs) in rw (f, one-add) more)
  ]
