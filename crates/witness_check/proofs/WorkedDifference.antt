-- Where two orders of the same messages to a module that keeps the latest record of a key differ.
use Rattle.std.proofs.Common.{◌≡◌, refl, ℕ, pos, List, [], ◌∷◌, codes, Some, None}
use Rattle.blz_value.specs.declared.value.Value.TheVariants.{Int, Text}
use Rattle.blz_value.specs.Record.{Row}
use Rattle.witness_check.specs.declared.difference.Which.TheVariants.{First, Second}
use Rattle.witness_check.specs.Difference.{difference}

abbrev answered : (n : ℕ) → Row
answered n = Text (codes "a") ∷ Int (pos n) ∷ []

-- the source has both records, and the stream that answers one of them at each of two replicas
abbrev answers : (here there : ℕ) → List (List (List Row))
answers here there = ((answered 1 ∷ answered 2 ∷ []) ∷ []) ∷ ((answered here ∷ []) ∷ (answered there ∷ []) ∷ []) ∷ []

pub the_lesser_is_held_by_the_second : difference (answers 2 2) (answers 1 1) ≡ Some (record { stream = 1; replica = 0; held_by = Second; row = answered 1 })
the_lesser_is_held_by_the_second = refl

pub the_first_replica_agrees : difference (answers 2 1) (answers 2 2) ≡ Some (record { stream = 1; replica = 1; held_by = First; row = answered 1 })
the_first_replica_agrees = refl

pub all_is_the_same : difference (answers 2 1) (answers 2 1) ≡ None
all_is_the_same = refl
