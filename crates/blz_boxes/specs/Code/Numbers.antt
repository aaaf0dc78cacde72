-- Maps from records to their numbers.
use Rattle.std.specs.Prelude.{ℕ, ℤ, pos, List, [], ◌∷◌, ◌++◌, map}
use Rattle.std.specs.List.{enumerate_from}
use Rattle.std.specs.BTreeMap.{BTreeMap}
use Rattle.blz_value.specs.declared.value.Value.TheVariants.{Int}
use Rattle.blz_value.specs.Record.{Row}
use Rattle.blz_value.specs.Sets.{set_of}

-- a record with its number
abbrev pub with_number : Row → ℤ → Row
with_number row number = row ++ Int number ∷ []

-- the records with their numbers, as a set
abbrev pub numbered_records : BTreeMap Row ℤ → List Row
numbered_records numbers = set_of (map (λ entry. with_number entry.0 entry.1) numbers.entries)

-- records with the numbers from the first one on
abbrev pub numbered_from : (first : ℕ) → List Row → List Row
numbered_from first rows = map (λ row. with_number row.1 (pos row.0)) (enumerate_from first rows)
