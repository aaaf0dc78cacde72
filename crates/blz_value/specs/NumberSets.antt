-- Sets of numbers below 64, by what is in them. A set is one number, whose bit k says that k is in it.
use Rattle.std.specs.Prelude.{ℕ, Bool, List, map}
use Rattle.std.specs.List.{range_with_len}
use Rattle.blz_value.specs.declared.attrs.Fd.{Fd}
use Rattle.blz_value.specs.Bits.{bit_of}
use Rattle.blz_value.specs.Closure.{closure}
use Rattle.blz_value.specs.Arrows.{arrow_from, with_all, bit_if}

-- the numbers below a count
abbrev pub below : ℕ → List ℕ
below count = range_with_len 0 count

-- the set of some numbers
abbrev pub set_of_numbers : List ℕ → ℕ
set_of_numbers ns = with_all 0 (map bit_of ns)

-- the set of those of some numbers that pass a test
abbrev pub set_where : (ℕ → Bool) → List ℕ → ℕ
set_where test ns = with_all 0 (map (λ n. bit_if (test n) n) ns)

-- a number that passes is in a set that has all that it needs
abbrev pub spreading : (passes : ℕ → Bool) → (needs : ℕ → ℕ) → ℕ → Fd
spreading passes needs n = arrow_from (needs n) (bit_if (passes n) n)

-- the least set that has those of some numbers that start it, and each that passes as soon as the set has all that it needs
abbrev pub spread : (starts passes : ℕ → Bool) → (needs : ℕ → ℕ) → List ℕ → ℕ
spread starts passes needs ns = closure (set_where starts ns) (map (spreading passes needs) ns)
