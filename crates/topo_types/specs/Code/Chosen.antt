-- Columns that are chosen by their numbers, by a walk over the columns.
use Rattle.std.specs.Prelude.{ℕ, ◌==◌, not, List, map, filter}
use Rattle.std.specs.List.{enumerate_from, list_any}
use Rattle.bloom_forms.specs.Query.{Name}

-- those whose numbers are keys
abbrev pub with_keys : (keys : List ℕ) → List Name → List Name
with_keys keys columns = map (λ place. place.1) (filter (λ place. list_any (λ key. key == place.0) keys) (enumerate_from 0 columns))

-- those with other numbers than one
abbrev pub without_number : (number : ℕ) → List Name → List Name
without_number number columns = map (λ place. place.1) (filter (λ place. not (place.0 == number)) (enumerate_from 0 columns))
