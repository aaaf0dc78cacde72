-- A list with one of its elements behind the others.
use Rattle.std.specs.Prelude.{◌≡◌, ◌<◌, ◌++◌, [], ◌∷◌, ℕ, List, slice_index_or, length}
use Rattle.std.specs.List.{remove}

-- what stood at a place of the whole list stands behind the others
pub record IsAside {X : Type 0} (whole : List X) (place : ℕ) (aside : List X) : Type 0 where
  pub there : place < length whole
  pub is : (d : X) → aside ≡ remove whole place ++ slice_index_or whole place d ∷ []
