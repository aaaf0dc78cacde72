-- Sets that are emptied one after another.
use Rattle.std.proofs.Common.{◌≡◌, ◌<◌, ℕ, zero, suc, [], ◌∷◌, ◌++◌, length, map, take, drop, slice_set, refl, arith, ap}
use Rattle.bloom_forms.specs.Step.{Sets}

-- the first so many sets are empty, the others as they were
abbrev pub emptied : ℕ → Sets → Sets
emptied count sets = map (λ rows. []) (take count sets) ++ drop count sets

pub one_more : (sets : Sets) (count : ℕ) → count < length sets → slice_set (emptied count sets) count [] ≡ emptied (suc count) sets
one_more [] count lt = absurd (omega (arith, lt))
one_more (rows ∷ sets) zero lt = refl
one_more (rows ∷ sets) (suc count) lt = ap (λ (later : Sets). [] ∷ later) (one_more sets count (omega (arith, lt)))
