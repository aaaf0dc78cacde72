-- What a module of the program is, without where it lies in memory.
use Rattle.std.specs.Prelude.{ℕ, List, map}
use Rattle.bloom_forms.specs.declared.expr.Pred.{Pred, Compare, And', Or', Not'}
use Rattle.bloom_forms.specs.declared.expr.Expr.{Expr, Base, Select', Project', Join', NotIn', Group', AtLeast'}
use Rattle.bloom_forms.specs.declared.module.Collection.{Collection}
use Rattle.bloom_forms.specs.declared.module.Rule.{Rule}
use Rattle.bloom_forms.specs.declared.module.Module.{Module}
use Rattle.bloom_forms.specs.Query.{Name, Formula, Query}
use Rattle.bloom_forms.specs.Query.Formula.{compare, both, either, not_so}
use Rattle.bloom_forms.specs.Query.Query.{base, select, project, join, notin, group, at_least}

abbrev pub formula_of : Pred → Formula
formula_of (Compare left op right) = compare left op right
formula_of (And' p a q b) = both (formula_of a) (formula_of b)
formula_of (Or' p a q b) = either (formula_of a) (formula_of b)
formula_of (Not' p a) = not_so (formula_of a)

abbrev pub query_of : Expr → Query
query_of (Base name) = base name
query_of (Select' p e pred) = select (query_of e) (formula_of pred)
query_of (Project' p e items) = project (query_of e) items
query_of (Join' p a q b pairs) = join (query_of a) (query_of b) pairs
query_of (NotIn' p a q b pairs) = notin (query_of a) (query_of b) pairs
query_of (Group' p e keys agg name) = group (query_of e) keys agg name
query_of (AtLeast' p e keys bound) = at_least (query_of e) keys bound

-- a head and its body
abbrev pub RuleForm : Type 0
RuleForm = Name × Query

abbrev pub rule_form : Rule → RuleForm
rule_form r = (r.head, query_of r.body)

abbrev pub rule_forms : List Rule → List RuleForm
rule_forms rules = map rule_form rules

-- a module: its name, its collections and its rules, each in the order of the text
pub record Form : Type 0 where
  pub name : Name
  pub collections : List Collection
  pub rules : List RuleForm

abbrev pub form_of : Module → Form
form_of m = record { name = m.name; collections = m.collections; rules = rule_forms m.rules }

-- a module that was checked, and its heads in an order in which each comes after the heads that its rules read
pub record Accepted : Type 0 where
  pub form : Form
  pub heads : List ℕ
