-- A copied test holds for the same records, and the plan of an expression before the first step is that of the expression's names.
use Rattle.std.proofs.Common.{◌≡◌, ◌∙◌, ℕ, Bool, not, List, [], ◌∷◌, length, Global, ap, sym, subst}
use Rattle.std.specs.Prelude.{◌&&◌, ◌||◌}
use Rattle.std.specs.declared.boxed.Box.{Box}
use Rattle.std.specs.List.{AllZip}
use Rattle.blz_value.specs.declared.aggregate.Agg.{Agg}
use Rattle.blz_value.specs.declared.test.Operand.{Operand}
use Rattle.blz_value.specs.declared.test.Test.{Test, Compare, And', Or', Not'}
use Rattle.blz_value.specs.Operators.{Pairs}
use Rattle.blz_value.specs.Record.{Row}
use Rattle.blz_value.specs.Test.{op_holds, operand_value, OperandFits, test_holds, TestFits}
use Rattle.blz_value.specs.Value.{value_cmp}
use Rattle.bloom_forms.specs.declared.module.Collection.{Collection}
use Rattle.bloom_forms.specs.declared.numbered.NumberedExpr.{NumberedExpr}
use Rattle.bloom_forms.specs.declared.numbered.NumberedExpr as expr
use Rattle.bloom_forms.specs.declared.numbered.NumberedRule.{NumberedRule}
use Rattle.bloom_forms.specs.Columns.{columns_of}
use Rattle.bloom_forms.specs.Form.{RuleForm}
use Rattle.bloom_forms.specs.Lookup.{declared}
use Rattle.bloom_forms.specs.Numbered.{IsNumbered, AreNumbered}
use Rattle.bloom_forms.specs.Query.{Query}
use Rattle.bloom_forms.specs.Query.Query.{select, project, join, notin, group, at_least}
use Rattle.bloom_index.specs.declared.plan.Plan.{Plan}
use Rattle.bloom_index.specs.declared.plan.Plan as plan
use Rattle.bloom_index.specs.Code.Copies.{IsCopy}
use Rattle.bloom_index.specs.Code.Emptiness.{IsFresh}
use Rattle.bloom_index.specs.Code.Plans.{expr_of, ArePlans}

-- ---- tests

same_answers : (test copy : Test) → IsCopy test copy → (row : Row) → test_holds copy row ≡ test_holds test row
same_answers (Compare left op right) (Compare first by second) is row = λ i. op_holds (is.1 i) (value_cmp (operand_value (is.0 i) row) (operand_value (is.2 i) row))
same_answers (And' p a q b) (And' r c s d) is row =
    let first = same_answers a c is.0 row in
    let second = same_answers b d is.1 row in
    λ i. first i && second i
same_answers (Or' p a q b) (Or' r c s d) is row =
    let first = same_answers a c is.0 row in
    let second = same_answers b d is.1 row in
    λ i. first i || second i
same_answers (Not' p a) (Not' q b) is row = ap not (same_answers a b is row)
same_answers test copy is row = absurd is

copy_fits : (test copy : Test) → IsCopy test copy → (width : ℕ) → TestFits test width → TestFits copy width
copy_fits (Compare left op right) (Compare first by second) is width fits = (subst (λ (operand : Operand). OperandFits operand width) (sym is.0) fits.0, subst (λ (operand : Operand). OperandFits operand width) (sym is.2) fits.1)
copy_fits (And' p a q b) (And' r c s d) is width fits = (copy_fits a c is.0 width fits.0, copy_fits b d is.1 width fits.1)
copy_fits (Or' p a q b) (Or' r c s d) is width fits = (copy_fits a c is.0 width fits.0, copy_fits b d is.1 width fits.1)
copy_fits (Not' p a) (Not' q b) is width fits = copy_fits a b is width fits
copy_fits test copy is width fits = absurd is

-- ---- operators, of whose parts it is said

module _ (cs : List Collection) (p u : Box (Unit {0}) Global) (e f : NumberedExpr) (part : (q : Query) → IsNumbered cs q e → IsNumbered cs q f) where
  select_numbered : (test copy : Test) → IsCopy test copy → (q : Query) → IsNumbered cs q (expr.Select' p e test) → IsNumbered cs q (expr.Select' u f copy)
  select_numbered test copy is (select q formula) all = (part q all.0, record { same = λ row. same_answers test copy is row ∙ all.1.same row; fits = copy_fits test copy is (length (columns_of (declared cs) q)) all.1.fits })
  select_numbered test copy is q all = absurd all

  project_numbered : (columns copy : List ℕ) → copy ≡ columns → (q : Query) → IsNumbered cs q (expr.Project' p e columns) → IsNumbered cs q (expr.Project' u f copy)
  project_numbered columns copy is (project q items) all = (part q all.0, is ∙ all.1)
  project_numbered columns copy is q all = absurd all

  group_numbered : (keys copy : List ℕ) (agg by : Agg) → copy ≡ keys → by ≡ agg → (q : Query) → IsNumbered cs q (expr.Group' p e keys agg) → IsNumbered cs q (expr.Group' u f copy by)
  group_numbered keys copy agg by is also (group q names named name) all = (part q all.0, is ∙ all.1, also ∙ all.2)
  group_numbered keys copy agg by is also q all = absurd all

  at_least_numbered : (keys copy : List ℕ) (bound count : ℕ) → copy ≡ keys → count ≡ bound → (q : Query) → IsNumbered cs q (expr.AtLeast' p e keys bound) → IsNumbered cs q (expr.AtLeast' u f copy count)
  at_least_numbered keys copy bound count is also (at_least q names least) all = (part q all.0, is ∙ all.1, also ∙ all.2)
  at_least_numbered keys copy bound count is also q all = absurd all

  module _ (r v : Box (Unit {0}) Global) (d g : NumberedExpr) (other : (q : Query) → IsNumbered cs q d → IsNumbered cs q g) (pairs copy : Pairs) (is : copy ≡ pairs) where
    join_numbered : (q : Query) → IsNumbered cs q (expr.Join' p e r d pairs) → IsNumbered cs q (expr.Join' u f v g copy)
    join_numbered (join a b named) all = (part a all.0, other b all.1, is ∙ all.2)
    join_numbered q all = absurd all

    notin_numbered : (q : Query) → IsNumbered cs q (expr.NotIn' p e r d pairs) → IsNumbered cs q (expr.NotIn' u f v g copy)
    notin_numbered (notin a b named) all = (part a all.0, other b all.1, is ∙ all.2)
    notin_numbered q all = absurd all

-- ---- plans before the first step

module _ (cs : List Collection) (growing : List Bool) where
  fresh_numbered : (e : NumberedExpr) (m : Plan) → IsFresh growing e m → (q : Query) → IsNumbered cs q e → IsNumbered cs q (expr_of m)
  fresh_numbered (expr.Base number) (plan.Base copy) fresh q all = subst (λ (n : ℕ). IsNumbered cs q (expr.Base n)) (sym fresh) all
  fresh_numbered (expr.Select' p e test) (plan.Select' u m copy) fresh q all = select_numbered cs p u e (expr_of m) (fresh_numbered e m fresh.0) test copy fresh.1 q all
  fresh_numbered (expr.Project' p e columns) (plan.Project' u m copy bag) fresh q all = project_numbered cs p u e (expr_of m) (fresh_numbered e m fresh.0) columns copy fresh.1 q all
  fresh_numbered (expr.Join' p a r b pairs) (plan.Join' u m v n copy kept) fresh q all =
      join_numbered cs p u a (expr_of m) (fresh_numbered a m fresh.0) r v b (expr_of n) (fresh_numbered b n fresh.1) pairs copy fresh.2 q all
  fresh_numbered (expr.NotIn' p a r b pairs) (plan.NotIn' u m v n copy kept) fresh q all =
      notin_numbered cs p u a (expr_of m) (fresh_numbered a m fresh.0) r v b (expr_of n) (fresh_numbered b n fresh.1) pairs copy fresh.2 q all
  fresh_numbered (expr.Group' p e keys agg) (plan.Group' u m groups) fresh q all =
      group_numbered cs p u e (expr_of m) (fresh_numbered e m fresh.0) keys groups.keys.items agg groups.agg fresh.1.keys_are fresh.1.agg_is q all
  fresh_numbered (expr.AtLeast' p e keys bound) (plan.AtLeast' u m copy groups) fresh q all =
      at_least_numbered cs p u e (expr_of m) (fresh_numbered e m fresh.0) keys groups.keys.items bound copy fresh.2.keys_are fresh.1 q all
  fresh_numbered e m fresh q all = absurd fresh

  pub fresh_plans : (forms : List RuleForm) (rules : List NumberedRule) (plans : List Plan) → AreNumbered cs forms rules → AllZip (λ (rule : NumberedRule) (m : Plan). IsFresh growing rule.body m) rules plans → ArePlans cs forms plans
  fresh_plans [] [] [] all fresh = tt
  fresh_plans [] [] (m ∷ plans) all fresh = absurd fresh
  fresh_plans [] (rule ∷ rules) plans all fresh = absurd all
  fresh_plans (form ∷ forms) [] plans all fresh = absurd all
  fresh_plans (form ∷ forms) (rule ∷ rules) [] all fresh = absurd fresh
  fresh_plans (form ∷ forms) (rule ∷ rules) (m ∷ plans) all fresh = (fresh_numbered rule.body m fresh.0 form.1 all.0.body, fresh_plans forms rules plans all.1 fresh.1)
