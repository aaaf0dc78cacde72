-- The rows that group and atleast give, as lists over a list of rows.
use Rattle.std.specs.Prelude.{ℕ, ℤ, pos, ◌+ℤ◌, nat_le, List, [], ◌∷◌, ◌++◌, map, filter, length, reverse, slice_index_or}
use Rattle.std.specs.Int.{saturate_signed, w64}
use Rattle.std.specs.Ordering.{eq_by_cmp}
use Rattle.blz_value.specs.declared.value.Value.{Value}
use Rattle.blz_value.specs.declared.value.Value.TheVariants.{Int, Text}
use Rattle.blz_value.specs.declared.aggregate.Agg.{Agg}
use Rattle.blz_value.specs.declared.aggregate.Agg.TheVariants.{Count, Sum, Min, Max}
use Rattle.blz_value.specs.Value.{value_cmp}
use Rattle.blz_value.specs.Record.{Row, record_cmp}
use Rattle.blz_value.specs.Sets.{set_by}
use Rattle.blz_value.specs.Test.{cell}
use Rattle.blz_value.specs.Operators.{cells, project_rows}

-- the values in a column, row by row
abbrev pub column_values : ℕ → List Row → List Value
column_values column rows = map (λ row. cell row column) rows

-- the number that a value adds to a sum: a text adds nothing
abbrev pub summand : Value → ℤ
summand (Int n) = n
summand (Text t) = pos 0

-- the exact sum of the numbers among the values
abbrev pub exact_sum : List Value → ℤ
exact_sum [] = pos 0
exact_sum (value ∷ values) = summand value +ℤ exact_sum values

-- the nearest i64
abbrev pub nearest : ℤ → ℤ
nearest n = saturate_signed w64 n

-- the distinct values, in their order
abbrev pub values_in_order : List Value → List Value
values_in_order values = set_by value_cmp values

-- the first value of a list
abbrev pub first_value : List Value → Value
first_value values = slice_index_or values 0 (Int (pos 0))

-- the least and the greatest value; of no values the number 0
abbrev pub least : List Value → Value
least values = first_value (values_in_order values)

abbrev pub greatest : List Value → Value
greatest values = first_value (reverse (values_in_order values))

-- what an aggregate makes of rows
abbrev pub aggregate : Agg → List Row → Value
aggregate Count rows = Int (pos (length rows))
aggregate (Sum column) rows = Int (nearest (exact_sum (column_values column rows)))
aggregate (Min column) rows = least (column_values column rows)
aggregate (Max column) rows = greatest (column_values column rows)

-- the rows with a key
abbrev pub with_key : List ℕ → Row → List Row → List Row
with_key keys key rows = filter (λ row. eq_by_cmp record_cmp (cells keys row) key) rows

-- group: a row for each key that some row has, of the key's values and the aggregate over the rows with that key
abbrev pub group_rows : List ℕ → Agg → List Row → List Row
group_rows keys agg rows = map (λ key. key ++ aggregate agg (with_key keys key rows) ∷ []) (project_rows keys rows)

-- atleast: the key tuples that occur in at least so many rows
abbrev pub at_least_rows : List ℕ → ℕ → List Row → List Row
at_least_rows keys bound rows = filter (λ key. nat_le bound (length (with_key keys key rows))) (project_rows keys rows)
