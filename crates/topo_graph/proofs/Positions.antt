-- The first place at which a test holds; where it holds nowhere, the length.
use Rattle.std.proofs.Common.{◌≡◌, ◌≤◌, inl, inr, nat_lt, Bool, List, [], ◌∷◌, length, unwrap_or, refl, arith}
use Rattle.std.specs.Prelude.{position}
use Rattle.std.specs.List.{position_or_len}
use Rattle.std.proofs.lemmas.Bool.{cases_Bool}
use Rattle.std.proofs.lemmas.Bool.Decides.{nat_tests}

place_le : {X : Type 0} (p : X → Bool) (xs : List X) → position_or_len p xs ≤ length xs
place_le p [] = omega arith
place_le p (x ∷ xs) = elim (cases_Bool (p x)) [
  | inl t ↦ rw t (omega arith)
  | inr f ↦ rw f (omega (arith, place_le p xs))
]

pub from_place : {X : Type 0} (p : X → Bool) (xs : List X) → unwrap_or (position p xs) (length xs) ≡ position_or_len p xs
from_place p xs = elim (cases_Bool (nat_lt (position_or_len p xs) (length xs))) [
  | inl t ↦ rw t refl
  | inr f ↦ rw f (let le = place_le p xs in let past : length xs ≤ position_or_len p xs = grind (arith, nat_tests) in omega (arith, le, past))
]
