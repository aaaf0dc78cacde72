-- The columns of an expression.
use Rattle.std.specs.Prelude.{ℕ, List, [], ◌∷◌, ◌++◌, map, length, unwrap_or}
use Rattle.blz_value.specs.Operators.{Pairs, unpaired}
use Rattle.blz_value.specs.Names.{place_of}
use Rattle.bloom_forms.specs.Query.{Name, Query}
use Rattle.bloom_forms.specs.Query.Query.{base, select, project, join, notin, group, at_least}

-- the number of the first column of the name; where there is none, how many columns there are
abbrev pub column_number : List Name → Name → ℕ
column_number columns name = unwrap_or (place_of columns name) (length columns)

-- pairs of a left and a right column, by their numbers
abbrev pub pair_numbers : List Name → List Name → List (Name × Name) → Pairs
pair_numbers left right pairs = map (λ pair. (column_number left pair.0, column_number right pair.1)) pairs

-- a left part's columns, followed by the right part's that stand in no pair
abbrev pub joined_columns : List Name → List Name → List (Name × Name) → List Name
joined_columns left right pairs = left ++ unpaired (pair_numbers left right pairs) right

-- the columns of an expression, where each collection has the columns that are declared of it
abbrev pub columns_of : (Name → List Name) → Query → List Name
columns_of declared (base name) = declared name
columns_of declared (select q f) = columns_of declared q
columns_of declared (project q items) = map (λ item. item.1) items
columns_of declared (join a b pairs) = joined_columns (columns_of declared a) (columns_of declared b) pairs
columns_of declared (notin a b pairs) = columns_of declared a
columns_of declared (group q keys agg name) = keys ++ name ∷ []
columns_of declared (at_least q keys bound) = keys
