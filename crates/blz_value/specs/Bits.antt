-- Sets of numbers below 64. A set is one number, whose bit k says that k is in it.
use Rattle.std.specs.Prelude.{ℕ, ◌^◌, ◌==◌, nat_lt, not, Bool, if◌then◌else◌, bit_and, List, filter}
use Rattle.std.specs.List.{range_with_len}

-- the set of this one number, which is empty for a number from 64 on
unfoldable pub bit_of : ℕ → ℕ
bit_of n = if nat_lt n 64 then 2 ^ n else 0

-- the two sets have a number in common
unfoldable pub meets : ℕ → ℕ → Bool
meets a b = not (bit_and a b == 0)

-- the members of a set, in order
abbrev pub members : ℕ → List ℕ
members set = filter (λ n. meets (bit_of n) set) (range_with_len 0 64)
