-- The columns of an expression fit its operators.
use Rattle.std.specs.Prelude.{ℕ, pos, int_lt, ◌&&◌, ◌||◌, not, Bool, true, false, nat_lt, List, [], ◌∷◌, map, length}
use Rattle.std.specs.List.{list_any, list_all}
use Rattle.std.specs.Str.{bytes_eq}
use Rattle.bloom_forms.specs.declared.expr.NamedAgg.{NamedAgg}
use Rattle.bloom_forms.specs.declared.expr.NamedAgg.TheVariants.{Count, Sum, Min, Max}
use Rattle.bloom_forms.specs.declared.expr.Term.{Term}
use Rattle.bloom_forms.specs.declared.expr.Term.TheVariants.{Column, Literal}
use Rattle.bloom_forms.specs.Columns.{columns_of}
use Rattle.bloom_forms.specs.Query.{Name, Formula, Query}
use Rattle.bloom_forms.specs.Query.Formula.{compare, both, either, not_so}
use Rattle.bloom_forms.specs.Query.Query.{base, select, project, join, notin, group, at_least}

-- the name is one of the list
abbrev pub has_name : List Name → Name → Bool
has_name names name = list_any (λ held. bytes_eq held name) names

-- a name stands twice
abbrev pub repeats : List Name → Bool
repeats [] = false
repeats (name ∷ names) = has_name names name || repeats names

-- one column or more, and at most eight
abbrev pub is_width : ℕ → Bool
is_width n = nat_lt 0 n && nat_lt n 9

-- so many columns, and none twice
abbrev pub are_columns : List Name → Bool
are_columns names = is_width (length names) && not (repeats names)

abbrev pub term_fits : List Name → Term → Bool
term_fits columns (Column name) = has_name columns name
term_fits columns (Literal value) = true

abbrev pub formula_fits : List Name → Formula → Bool
formula_fits columns (compare left op right) = term_fits columns left && term_fits columns right
formula_fits columns (both a b) = formula_fits columns a && formula_fits columns b
formula_fits columns (either a b) = formula_fits columns a && formula_fits columns b
formula_fits columns (not_so a) = formula_fits columns a

-- pairs of a left and a right column
abbrev pub pairs_have : List Name → List Name → List (Name × Name) → Bool
pairs_have left right pairs = list_all (λ pair. has_name left pair.0 && has_name right pair.1) pairs

-- of which no right column stands in two
abbrev pub pairs_fit : List Name → List Name → List (Name × Name) → Bool
pairs_fit left right pairs = pairs_have left right pairs && not (repeats (map (λ pair. pair.1) pairs))

abbrev pub items_fit : List Name → List (Name × Name) → Bool
items_fit columns items = list_all (λ item. has_name columns item.0) items

abbrev pub keys_fit : List Name → List Name → Bool
keys_fit columns keys = list_all (has_name columns) keys

abbrev pub aggregate_fits : List Name → NamedAgg → Bool
aggregate_fits columns Count = true
aggregate_fits columns (Sum name) = has_name columns name
aggregate_fits columns (Min name) = has_name columns name
aggregate_fits columns (Max name) = has_name columns name

-- what an operator wants of the columns of its parts
abbrev pub operator_fits : (Name → List Name) → Query → Bool
operator_fits declared (base name) = true
operator_fits declared (select q f) = formula_fits (columns_of declared q) f
operator_fits declared (project q items) = items_fit (columns_of declared q) items
operator_fits declared (join a b pairs) = pairs_fit (columns_of declared a) (columns_of declared b) pairs
operator_fits declared (notin a b pairs) = pairs_fit (columns_of declared a) (columns_of declared b) pairs
operator_fits declared (group q keys agg name) = keys_fit (columns_of declared q) keys && aggregate_fits (columns_of declared q) agg
operator_fits declared (at_least q keys bound) = keys_fit (columns_of declared q) keys && int_lt (pos 0) bound

-- an operator fits its parts, and its columns are one to eight and none twice
abbrev pub part_fits : (Name → List Name) → Query → Bool
part_fits declared q = operator_fits declared q && are_columns (columns_of declared q)

-- each operator of an expression fits
abbrev pub query_fits : (Name → List Name) → Query → Bool
query_fits declared (base name) = part_fits declared (base name)
query_fits declared (select q f) = query_fits declared q && part_fits declared (select q f)
query_fits declared (project q items) = query_fits declared q && part_fits declared (project q items)
query_fits declared (join a b pairs) = query_fits declared a && (query_fits declared b && part_fits declared (join a b pairs))
query_fits declared (notin a b pairs) = query_fits declared a && (query_fits declared b && part_fits declared (notin a b pairs))
query_fits declared (group q keys agg name) = query_fits declared q && part_fits declared (group q keys agg name)
query_fits declared (at_least q keys bound) = query_fits declared q && part_fits declared (at_least q keys bound)
