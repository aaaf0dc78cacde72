-- Sizes stand in levels: each level has the sums of the one below, two by two.
use Rattle.std.specs.Prelude.{◌≡◌, ◌<◌, ◌≤◌, ◌+◌, ◌^◌, ℕ, zero, suc, List, [], ◌∷◌, length, take, slice_index, slice_index_or, sum}

-- the sums of neighbours, two by two; a last one alone stays
abbrev pub halved : List ℕ → List ℕ
halved [] = []
halved (x ∷ []) = x ∷ []
halved (x ∷ y ∷ sizes) = (x + y) ∷ halved sizes

-- a level above some sizes, counted from 0, which is that of the sizes
abbrev pub level_of : List ℕ → (level : ℕ) → List ℕ
level_of sizes zero = sizes
level_of sizes (suc level) = halved (level_of sizes level)

-- the sizes of the lowest level
abbrev pub lowest : List (List ℕ) → List ℕ
lowest levels = slice_index_or levels 0 []

-- the levels are those of the lowest one's sizes, up to a level of one size at most
pub record AreLevels (levels : List (List ℕ)) : Type 0 where
  pub last : ℕ
  pub count : length levels ≡ last + 1
  pub each : (k : ℕ) → k < length levels → slice_index_or levels k [] ≡ level_of (lowest levels) k
  pub top : length (level_of (lowest levels) last) ≤ 1
  pub fits : sum (lowest levels) < 2 ^ 64

-- a number in a pair stands in one of its two sizes, which has as many before it together with what it leaves
pub record GoesDown (sizes : List ℕ) (pair number place rest : ℕ) : Type 0 where
  pub before : sum (take place sizes) + rest ≡ sum (take pair (halved sizes)) + number
  pub within : rest < slice_index sizes place
