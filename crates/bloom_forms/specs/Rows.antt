-- The rows of an expression: the set of the rows that its operator gives.
use Rattle.std.specs.Prelude.{ℕ, ℤ, pos, negsuc, Bool, not, ◌&&◌, ◌||◌, List, map}
use Rattle.blz_value.specs.declared.value.Value.{Value}
use Rattle.blz_value.specs.declared.aggregate.Agg.{Agg}
use Rattle.blz_value.specs.declared.aggregate.Agg.TheVariants as by_number
use Rattle.blz_value.specs.Value.{value_cmp}
use Rattle.blz_value.specs.Record.{Row}
use Rattle.blz_value.specs.Sets.{set_of}
use Rattle.blz_value.specs.Test.{cell, op_holds}
use Rattle.blz_value.specs.Operators.{select_rows, project_rows, join_rows, notin_rows}
use Rattle.blz_value.specs.Groups.{group_rows, at_least_rows}
use Rattle.bloom_forms.specs.declared.expr.Term.{Term}
use Rattle.bloom_forms.specs.declared.expr.Term.TheVariants.{Column, Literal}
use Rattle.bloom_forms.specs.declared.expr.NamedAgg.{NamedAgg}
use Rattle.bloom_forms.specs.declared.expr.NamedAgg.TheVariants.{Count, Sum, Min, Max}
use Rattle.bloom_forms.specs.Query.{Name, Formula, Query}
use Rattle.bloom_forms.specs.Query.Formula.{compare, both, either, not_so}
use Rattle.bloom_forms.specs.Query.Query.{base, select, project, join, notin, group, at_least}
use Rattle.bloom_forms.specs.Columns.{column_number, pair_numbers, columns_of}

-- what a term stands for in a row with these columns
abbrev pub term_value : List Name → Term → Row → Value
term_value columns (Column name) row = cell row (column_number columns name)
term_value columns (Literal value) row = value

-- whether a predicate holds of a row with these columns
abbrev pub formula_holds : List Name → Formula → Row → Bool
formula_holds columns (compare left op right) row = op_holds op (value_cmp (term_value columns left row) (term_value columns right row))
formula_holds columns (both a b) row = formula_holds columns a row && formula_holds columns b row
formula_holds columns (either a b) row = formula_holds columns a row || formula_holds columns b row
formula_holds columns (not_so a) row = not (formula_holds columns a row)

-- the numbers of some columns
abbrev pub column_numbers : List Name → List Name → List ℕ
column_numbers columns names = map (column_number columns) names

-- the numbers of the columns that items project
abbrev pub item_numbers : List Name → List (Name × Name) → List ℕ
item_numbers columns items = map (λ item. column_number columns item.0) items

-- an aggregate over the column with the number of the one that is named
abbrev pub numbered_agg : List Name → NamedAgg → Agg
numbered_agg columns Count = by_number.Count
numbered_agg columns (Sum name) = by_number.Sum (column_number columns name)
numbered_agg columns (Min name) = by_number.Min (column_number columns name)
numbered_agg columns (Max name) = by_number.Max (column_number columns name)

-- a bound as a number of rows, which is never negative
abbrev pub row_bound : ℤ → ℕ
row_bound (pos n) = n
row_bound (negsuc n) = 0

-- the rows of an expression, where each collection has the columns that are declared of it, and holds the rows that `env` gives
abbrev pub rows_of : (Name → List Name) → (Name → List Row) → Query → List Row
rows_of declared env (base name) = env name
rows_of declared env (select q f) = set_of (select_rows (formula_holds (columns_of declared q) f) (rows_of declared env q))
rows_of declared env (project q items) = set_of (project_rows (item_numbers (columns_of declared q) items) (rows_of declared env q))
rows_of declared env (join a b pairs) = set_of (join_rows (pair_numbers (columns_of declared a) (columns_of declared b) pairs) (rows_of declared env a) (rows_of declared env b))
rows_of declared env (notin a b pairs) = set_of (notin_rows (pair_numbers (columns_of declared a) (columns_of declared b) pairs) (rows_of declared env a) (rows_of declared env b))
rows_of declared env (group q keys agg name) = set_of (group_rows (column_numbers (columns_of declared q) keys) (numbered_agg (columns_of declared q) agg) (rows_of declared env q))
rows_of declared env (at_least q keys bound) = set_of (at_least_rows (column_numbers (columns_of declared q) keys) (row_bound bound) (rows_of declared env q))
