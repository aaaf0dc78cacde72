-- Roots of columns. Where the values of a column are copies of those of a port's column, the attribute of that is its root; any other column has none. An attribute is known by its number, which is the place of its name.
use Rattle.std.specs.Prelude.{ℕ, ◌==◌, ◌&&◌, Bool, false, if◌then◌else◌, Option, None, Some, List, [], ◌∷◌, ◌++◌, map, slice_index_or}
use Rattle.std.specs.List.{list_any, enumerate_from}
use Rattle.blz_value.specs.Operators.{Pairs, unpaired}
use Rattle.bloom_forms.specs.Columns.{columns_of, pair_numbers}
use Rattle.bloom_forms.specs.Query.{Name, Query}
use Rattle.bloom_forms.specs.Query.Query.{base, select, project, join, notin, group, at_least}
use Rattle.bloom_forms.specs.Rows.{column_numbers, item_numbers}

-- the root of each column
abbrev pub Roots : Type 0
Roots = List (Option ℕ)

-- the root of the column with the number; past the end there is none
abbrev pub root_at : Roots → ℕ → Option ℕ
root_at roots number = slice_index_or roots number None

-- both columns have a root, and it is the same
abbrev pub are_same : Option ℕ → Option ℕ → Bool
are_same None b = false
are_same (Some a) None = false
are_same (Some a) (Some b) = a == b

-- a column of a join's left part stands in a pair whose right column has the same root
abbrev pub is_equated : Pairs → (right : Roots) → (number : ℕ) → Option ℕ → Bool
is_equated pairs right number root = list_any (λ pair. pair.0 == number && are_same root (root_at right pair.1)) pairs

-- such a column keeps its root, and each other column of the left part loses it
abbrev pub kept_roots : Pairs → (left right : Roots) → Roots
kept_roots pairs left right = map (λ place. if is_equated pairs right place.0 place.1 then place.1 else None) (enumerate_from 0 left)

-- none for each of some columns
abbrev pub no_roots : {X : Type 0} → List X → Roots
no_roots columns = map (λ column. None) columns

-- the columns of a join: those of the left part, and those of the right part that stand in no pair, which have no root
abbrev pub joined_roots : Pairs → (left right : Roots) → Roots
joined_roots pairs left right = kept_roots pairs left right ++ no_roots (unpaired pairs right)

-- the roots of some columns by their numbers
abbrev pub roots_at : Roots → List ℕ → Roots
roots_at roots numbers = map (root_at roots) numbers

-- the roots of an expression's columns, where each collection has the columns that are declared of it, with the roots that `env` gives
abbrev pub roots_of : (Name → List Name) → (Name → Roots) → Query → Roots
roots_of declared env (base name) = env name
roots_of declared env (select q f) = roots_of declared env q
roots_of declared env (project q items) = roots_at (roots_of declared env q) (item_numbers (columns_of declared q) items)
roots_of declared env (join a b pairs) = joined_roots (pair_numbers (columns_of declared a) (columns_of declared b) pairs) (roots_of declared env a) (roots_of declared env b)
roots_of declared env (notin a b pairs) = roots_of declared env a
roots_of declared env (group q keys agg name) = roots_at (roots_of declared env q) (column_numbers (columns_of declared q) keys) ++ None ∷ []
roots_of declared env (at_least q keys bound) = roots_at (roots_of declared env q) (column_numbers (columns_of declared q) keys)
