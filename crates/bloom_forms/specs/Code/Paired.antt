-- The right columns of a join that stand in a pair.
use Rattle.std.specs.Prelude.{ℕ, ◌==◌, Bool, List}
use Rattle.std.specs.List.{list_any}
use Rattle.bloom_forms.specs.Columns.{column_number}
use Rattle.bloom_forms.specs.Query.{Name}

-- the right column with this number stands in a pair
abbrev pub is_in_pair : List Name → List (Name × Name) → ℕ → Bool
is_in_pair right pairs number = list_any (λ pair. column_number right pair.1 == number) pairs
