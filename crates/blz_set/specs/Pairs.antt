-- The columns that pairs equate.
use Rattle.std.specs.Prelude.{ℕ, List, map}
use Rattle.blz_value.specs.Operators.{Pairs}

-- the left columns of pairs
abbrev pub lefts_of : Pairs → List ℕ
lefts_of pairs = map (λ pair. pair.0) pairs

-- the right columns of pairs
abbrev pub rights_of : Pairs → List ℕ
rights_of pairs = map (λ pair. pair.1) pairs
