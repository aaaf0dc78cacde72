-- Lists of names, each a list of bytes.
use Rattle.std.specs.Prelude.{ℕ, ◌≤◌, ◌≢◌, List, [], ◌∷◌, ◌++◌, length, AllPairs, Option, is_some, if◌then◌else◌}
use Rattle.std.specs.List.{position_from}
use Rattle.std.specs.Str.{bytes_eq}

-- at most 64 names, each once
pub record IsNameList (names : List (List ℕ)) : Type 0 where
  pub few : length names ≤ 64
  pub distinct : AllPairs (λ a b. a ≢ b) names

-- the first place at which a name stands, counted from 0
abbrev pub place_of : List (List ℕ) → List ℕ → Option ℕ
place_of names name = position_from (λ held. bytes_eq held name) 0 names

-- the list with the name, which goes last where it is new
abbrev pub added : List (List ℕ) → List ℕ → List (List ℕ)
added names name = if is_some (place_of names name) then names else names ++ name ∷ []
