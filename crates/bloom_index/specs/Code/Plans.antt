-- The expressions of plans, and the rules of a module by their numbers.
use Rattle.std.specs.Prelude.{List, [], ◌∷◌}
use Rattle.std.specs.List.{AllZip}
use Rattle.bloom_forms.specs.declared.module.Collection.{Collection}
use Rattle.bloom_forms.specs.declared.numbered.NumberedExpr.{NumberedExpr}
use Rattle.bloom_forms.specs.declared.numbered.NumberedExpr as expr
use Rattle.bloom_forms.specs.declared.numbered.NumberedRule.{NumberedRule}
use Rattle.bloom_forms.specs.Form.{RuleForm}
use Rattle.bloom_forms.specs.Lookup.{collection_number}
use Rattle.bloom_forms.specs.Numbered.{IsNumbered}
use Rattle.bloom_index.specs.declared.plan.Plan.{Plan}
use Rattle.bloom_index.specs.declared.plan.Plan as plan

-- the expression of a plan
abbrev pub expr_of : Plan → NumberedExpr
expr_of (plan.Base number) = expr.Base number
expr_of (plan.Select' p m test) = expr.Select' p (expr_of m) test
expr_of (plan.Project' p m columns bag) = expr.Project' p (expr_of m) columns
expr_of (plan.Join' p m q n pairs kept) = expr.Join' p (expr_of m) q (expr_of n) pairs
expr_of (plan.NotIn' p m q n pairs kept) = expr.NotIn' p (expr_of m) q (expr_of n) pairs
expr_of (plan.Group' p m groups) = expr.Group' p (expr_of m) groups.keys.items groups.agg
expr_of (plan.AtLeast' p m bound groups) = expr.AtLeast' p (expr_of m) groups.keys.items bound

-- the plans of rules are those of their bodies, in the same order
abbrev pub ArePlans : List Collection → List RuleForm → List Plan → Type 0
ArePlans cs forms plans = AllZip (λ (form : RuleForm) (m : Plan). IsNumbered cs form.1 (expr_of m)) forms plans

-- the rules of which these are the plans
abbrev pub rules_by : List Collection → List RuleForm → List Plan → List NumberedRule
rules_by cs [] plans = []
rules_by cs (f ∷ forms) [] = []
rules_by cs (f ∷ forms) (m ∷ plans) = record { head = collection_number cs f.0; body = expr_of m } ∷ rules_by cs forms plans
