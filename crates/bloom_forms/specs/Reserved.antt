-- The names of a module, and the words that are none.
use Rattle.std.specs.Prelude.{◌&&◌, not, Bool, IsTrue, List, [], ◌∷◌, ◌++◌, codes}
use Rattle.std.specs.List.{list_any, list_all, flat_map}
use Rattle.std.specs.Str.{bytes_eq}
use Rattle.blz_value.specs.Name.{is_name}
use Rattle.bloom_forms.specs.declared.expr.NamedAgg.{NamedAgg}
use Rattle.bloom_forms.specs.declared.expr.NamedAgg.TheVariants.{Count, Sum, Min, Max}
use Rattle.bloom_forms.specs.declared.expr.Term.{Term}
use Rattle.bloom_forms.specs.declared.expr.Term.TheVariants.{Column, Literal}
use Rattle.bloom_forms.specs.Form.{Form}
use Rattle.bloom_forms.specs.Query.{Name, Formula, Query}
use Rattle.bloom_forms.specs.Query.Formula.{compare, both, either, not_so}
use Rattle.bloom_forms.specs.Query.Query.{base, select, project, join, notin, group, at_least}

-- the words of module text
abbrev pub reserved_words : List Name
reserved_words =
    codes "module" ∷ codes "input" ∷ codes "output" ∷ codes "table" ∷ codes "scratch"
    ∷ codes "select" ∷ codes "project" ∷ codes "join" ∷ codes "notin" ∷ codes "group" ∷ codes "atleast"
    ∷ codes "count" ∷ codes "sum" ∷ codes "min" ∷ codes "max"
    ∷ codes "as" ∷ codes "and" ∷ codes "or" ∷ codes "not" ∷ []

abbrev pub is_reserved : Name → Bool
is_reserved name = list_any (λ word. bytes_eq word name) reserved_words

-- a name that may stand in a module
abbrev pub is_own_name : Name → Bool
is_own_name name = is_name name && not (is_reserved name)

abbrev pub term_names : Term → List Name
term_names (Column name) = name ∷ []
term_names (Literal value) = []

abbrev pub formula_names : Formula → List Name
formula_names (compare left op right) = term_names left ++ term_names right
formula_names (both a b) = formula_names a ++ formula_names b
formula_names (either a b) = formula_names a ++ formula_names b
formula_names (not_so a) = formula_names a

abbrev pub pair_names : List (Name × Name) → List Name
pair_names pairs = flat_map (λ pair. pair.0 ∷ pair.1 ∷ []) pairs

abbrev pub aggregate_names : NamedAgg → List Name
aggregate_names Count = []
aggregate_names (Sum name) = name ∷ []
aggregate_names (Min name) = name ∷ []
aggregate_names (Max name) = name ∷ []

-- the names of an expression: of collections and of columns
abbrev pub query_names : Query → List Name
query_names (base name) = name ∷ []
query_names (select q f) = query_names q ++ formula_names f
query_names (project q items) = query_names q ++ pair_names items
query_names (join a b pairs) = query_names a ++ (query_names b ++ pair_names pairs)
query_names (notin a b pairs) = query_names a ++ (query_names b ++ pair_names pairs)
query_names (group q keys agg name) = query_names q ++ (keys ++ (aggregate_names agg ++ name ∷ []))
query_names (at_least q keys bound) = query_names q ++ keys

-- each name in a module
abbrev pub module_names : Form → List Name
module_names m = m.name ∷ (flat_map (λ c. c.name ∷ c.columns) m.collections ++ flat_map (λ r. r.0 ∷ query_names r.1) m.rules)

-- each name in a module is a name and no word of module text
abbrev pub HasOwnNames : Form → Type 0
HasOwnNames m = IsTrue (list_all is_own_name (module_names m))
