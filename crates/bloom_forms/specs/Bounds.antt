-- The bounds of the grammar, for the least text of an expression.
use Rattle.std.specs.Prelude.{if◌then◌else◌, ℕ, suc, ◌+◌, ◌||◌, Bool, true, false, nat_lt, max, List, [], ◌∷◌, ◌++◌, length}
use Rattle.std.specs.List.{list_any}
use Rattle.blz_value.specs.declared.value.Value.{Value}
use Rattle.blz_value.specs.declared.value.Value.TheVariants.{Int, Text}
use Rattle.bloom_forms.specs.declared.expr.Term.{Term}
use Rattle.bloom_forms.specs.declared.expr.Term.TheVariants.{Column, Literal}
use Rattle.bloom_forms.specs.Query.{Formula, Query}
use Rattle.bloom_forms.specs.Query.Formula.{compare, both, either, not_so}
use Rattle.bloom_forms.specs.Query.Query.{base, select, project, join, notin, group, at_least}

-- the most levels that are open at once
abbrev pub most_levels : ℕ
most_levels = 32

-- the most comparisons of a select
abbrev pub most_comparisons : ℕ
most_comparisons = 32

abbrev pub is_either : Formula → Bool
is_either (compare l o r) = false
is_either (both a b) = false
is_either (either a b) = true
is_either (not_so a) = false

-- it is joined by `and` or `or`
abbrev pub is_joined : Formula → Bool
is_joined (compare l o r) = false
is_joined (both a b) = true
is_joined (either a b) = true
is_joined (not_so a) = false

-- the levels of a part, which needs parentheses or doesn't
abbrev pub within : Bool → ℕ → ℕ
within parentheses levels = if parentheses then suc levels else levels

-- how many parentheses and `not`s are open at once at most: a part stands in parentheses where it would bind too weakly without them, and a right part also where it is joined by the same word
abbrev pub levels : Formula → ℕ
levels (compare l o r) = 0
levels (both a b) = max (within (is_either a) (levels a)) (within (is_joined b) (levels b))
levels (either a b) = max (levels a) (within (is_either b) (levels b))
levels (not_so a) = suc (within (is_joined a) (levels a))

abbrev pub comparisons : Formula → ℕ
comparisons (compare l o r) = 1
comparisons (both a b) = comparisons a + comparisons b
comparisons (either a b) = comparisons a + comparisons b
comparisons (not_so a) = comparisons a

abbrev pub is_long_value : Value → Bool
is_long_value (Int n) = false
is_long_value (Text bytes) = nat_lt 64 (length bytes)

abbrev pub is_long_term : Term → Bool
is_long_term (Column name) = false
is_long_term (Literal value) = is_long_value value

-- it has a text literal with more bytes than a literal may have
abbrev pub has_long_literal : Formula → Bool
has_long_literal (compare l o r) = is_long_term l || is_long_term r
has_long_literal (both a b) = has_long_literal a || has_long_literal b
has_long_literal (either a b) = has_long_literal a || has_long_literal b
has_long_literal (not_so a) = has_long_literal a

-- how many levels are open at once at most: each expression that isn't a plain name opens one
abbrev pub query_levels : Query → ℕ
query_levels (base name) = 0
query_levels (select q f) = suc (max (query_levels q) (levels f))
query_levels (project q items) = suc (query_levels q)
query_levels (join a b pairs) = suc (max (query_levels a) (query_levels b))
query_levels (notin a b pairs) = suc (max (query_levels a) (query_levels b))
query_levels (group q keys agg name) = suc (query_levels q)
query_levels (at_least q keys bound) = suc (query_levels q)

-- the predicates of the selects in an expression
abbrev pub formulas_of : Query → List Formula
formulas_of (base name) = []
formulas_of (select q f) = f ∷ formulas_of q
formulas_of (project q items) = formulas_of q
formulas_of (join a b pairs) = formulas_of a ++ formulas_of b
formulas_of (notin a b pairs) = formulas_of a ++ formulas_of b
formulas_of (group q keys agg name) = formulas_of q
formulas_of (at_least q keys bound) = formulas_of q

-- too many comparisons, or a text literal that is too long
abbrev pub is_long : Formula → Bool
is_long f = nat_lt most_comparisons (comparisons f) || has_long_literal f

-- too many levels, or a select whose predicate is too long
abbrev pub passes_bounds : Query → Bool
passes_bounds q = nat_lt most_levels (query_levels q) || list_any is_long (formulas_of q)

-- ---- how deep a tree is, by which the walks over one that is handed in are bounded

-- how many `and`s, `or`s and `not`s stand around a comparison at most
abbrev pub formula_height : Formula → ℕ
formula_height (compare l o r) = 0
formula_height (both a b) = suc (max (formula_height a) (formula_height b))
formula_height (either a b) = suc (max (formula_height a) (formula_height b))
formula_height (not_so a) = suc (formula_height a)

-- how many operators, or words of a predicate, stand around a leaf at most
abbrev pub height : Query → ℕ
height (base name) = 0
height (select q f) = suc (max (height q) (formula_height f))
height (project q items) = suc (height q)
height (join a b pairs) = suc (max (height a) (height b))
height (notin a b pairs) = suc (max (height a) (height b))
height (group q keys agg name) = suc (height q)
height (at_least q keys bound) = suc (height q)
