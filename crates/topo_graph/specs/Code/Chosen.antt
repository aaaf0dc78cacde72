-- Names that are chosen by their numbers, by a walk over the names.
use Rattle.std.specs.Prelude.{ℕ, ◌<◌, ◌^◌, List, map, filter, length}
use Rattle.std.specs.List.{enumerate_from}
use Rattle.bloom_forms.specs.Query.{Name}
use Rattle.bloom_forms.specs.declared.mode.Mode.{Mode}
use Rattle.bloom_forms.specs.declared.mode.Mode.TheVariants.{Free, Pass, Seal, Order}
use Rattle.blz_value.specs.Graph.{is_in}

-- those whose numbers are in a set
abbrev pub with_members : (set : ℕ) → List Name → List Name
with_members set columns = map (λ place. place.1) (filter (λ place. is_in place.0 set) (enumerate_from 0 columns))

-- the numbers in the key of a mode are those of some names
abbrev pub IsKeyAmong : List Name → Mode → Type 0
IsKeyAmong names Free = Unit {0}
IsKeyAmong names (Pass key) = key.bits < 2 ^ length names
IsKeyAmong names (Seal key) = key.bits < 2 ^ length names
IsKeyAmong names Order = Unit {0}
