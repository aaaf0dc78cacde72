-- Expressions and rules with their names as numbers.
use Rattle.std.specs.Prelude.{◌≡◌, ◌≤◌, List, [], ◌∷◌, ◌++◌, length}
use Rattle.std.specs.List.{AllZip}
use Rattle.bloom_forms.specs.declared.module.Collection.{Collection}
use Rattle.bloom_forms.specs.declared.numbered.NumberedExpr.{NumberedExpr, Base, Select', Project', Join', NotIn', Group', AtLeast'}
use Rattle.bloom_forms.specs.declared.numbered.NumberedRule.{NumberedRule}
use Rattle.bloom_forms.specs.Columns.{columns_of, pair_numbers}
use Rattle.bloom_forms.specs.Form.{RuleForm}
use Rattle.bloom_forms.specs.Lookup.{collection_number, declared}
use Rattle.bloom_forms.specs.Query.{Name, Query}
use Rattle.bloom_forms.specs.Query.Query.{base, select, project, join, notin, group, at_least}
use Rattle.bloom_forms.specs.Rows.{column_numbers, item_numbers, numbered_agg, row_bound}
use Rattle.bloom_forms.specs.Tests.{FormulaFits, IsTestOf}

-- an expression with its names as numbers: the collections' among the declared ones, and the columns' among those of the parts in which they are named
abbrev pub IsNumbered : List Collection → Query → NumberedExpr → Type 0
IsNumbered cs (base name) (Base number) = number ≡ collection_number cs name
IsNumbered cs (select q f) (Select' p e test) = IsNumbered cs q e × IsTestOf (columns_of (declared cs) q) f test
IsNumbered cs (project q items) (Project' p e numbers) = IsNumbered cs q e × (numbers ≡ item_numbers (columns_of (declared cs) q) items)
IsNumbered cs (join a b pairs) (Join' p left r right numbers) = IsNumbered cs a left × IsNumbered cs b right × (numbers ≡ pair_numbers (columns_of (declared cs) a) (columns_of (declared cs) b) pairs)
IsNumbered cs (notin a b pairs) (NotIn' p left r right numbers) = IsNumbered cs a left × IsNumbered cs b right × (numbers ≡ pair_numbers (columns_of (declared cs) a) (columns_of (declared cs) b) pairs)
IsNumbered cs (group q keys agg name) (Group' p e numbers by) = IsNumbered cs q e × (numbers ≡ column_numbers (columns_of (declared cs) q) keys) × (by ≡ numbered_agg (columns_of (declared cs) q) agg)
IsNumbered cs (at_least q keys bound) (AtLeast' p e numbers count) = IsNumbered cs q e × (numbers ≡ column_numbers (columns_of (declared cs) q) keys) × (count ≡ row_bound bound)
IsNumbered cs q e = ⊥

-- a rule with its names as numbers
pub record IsNumberedRule (cs : List Collection) (form : RuleForm) (rule : NumberedRule) : Type 0 where
  pub head : rule.head ≡ collection_number cs form.0
  pub body : IsNumbered cs form.1 rule.body

-- the rules with their names as numbers, in the same order
abbrev pub AreNumbered : List Collection → List RuleForm → List NumberedRule → Type 0
AreNumbered cs forms rules = AllZip (IsNumberedRule cs) forms rules

-- names can be made numbers: no part has more than eight columns, and each column that a predicate names is there
abbrev pub IsNumberable : (Name → List Name) → Query → Type 0
IsNumberable columns (base name) = length (columns name) ≤ 8
IsNumberable columns (select q f) = IsNumberable columns q × FormulaFits (columns_of columns q) f
IsNumberable columns (project q items) = IsNumberable columns q × (length items ≤ 8)
IsNumberable columns (join a b pairs) = IsNumberable columns a × IsNumberable columns b × (length (columns_of columns (join a b pairs)) ≤ 8)
IsNumberable columns (notin a b pairs) = IsNumberable columns a × IsNumberable columns b
IsNumberable columns (group q keys agg name) = IsNumberable columns q × (length (keys ++ name ∷ []) ≤ 8)
IsNumberable columns (at_least q keys bound) = IsNumberable columns q × (length keys ≤ 8)
