-- A number below the sum of some sizes stands in one of them, where they stand one after another.
use Rattle.std.specs.Prelude.{◌≡◌, ◌<◌, ◌+◌, ℕ, List, take, sum, slice_index}

-- it stands in the size at this place, after so many
pub record IsPlaceOf (sizes : List ℕ) (number place rest : ℕ) : Type 0 where
  pub before : sum (take place sizes) + rest ≡ number
  pub within : rest < slice_index sizes place
