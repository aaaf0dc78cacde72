-- What aggregates read, and the row that they make.
use Rattle.std.specs.Prelude.{ℕ, Option, None, Some, List, [], ◌∷◌, ◌++◌}
use Rattle.blz_value.specs.declared.aggregate.Agg.{Agg}
use Rattle.blz_value.specs.declared.aggregate.Agg.TheVariants.{Count, Sum, Min, Max}
use Rattle.blz_value.specs.declared.value.Value.{Value}
use Rattle.blz_value.specs.Groups.{aggregate, with_key}
use Rattle.blz_value.specs.Record.{Row}

-- the column that an aggregate reads, and the first for counting, which reads none
abbrev pub column_of : Agg → ℕ
column_of Count = 0
column_of (Sum column) = column
column_of (Min column) = column
column_of (Max column) = column

-- a key, followed by the aggregate of the rows that have it
abbrev pub grouped : List ℕ → Agg → List Row → Row → Row
grouped keys agg rows key = key ++ aggregate agg (with_key keys key rows) ∷ []

-- a key, followed by a value, where there is one
abbrev pub rows_of : Row → Option Value → List Row
rows_of key None = []
rows_of key (Some value) = (key ++ value ∷ []) ∷ []
