-- That an expression by numbers is that of its names is a fact.
use Rattle.std.specs.Prelude.{ℕ, List, [], ◌∷◌, length}
use Rattle.std.proofs.Props.{props}
use Rattle.blz_value.specs.declared.test.Operand.{Operand}
use Rattle.blz_value.specs.declared.test.Operand.TheVariants.{Column, Literal}
use Rattle.blz_value.specs.declared.test.Test.{Test, Compare, And', Or', Not'}
use Rattle.blz_value.specs.Test.{OperandFits, TestFits}
use Rattle.bloom_forms.specs.declared.module.Collection.{Collection}
use Rattle.bloom_forms.specs.declared.numbered.NumberedExpr.{NumberedExpr}
use Rattle.bloom_forms.specs.declared.numbered.NumberedExpr as expr
use Rattle.bloom_forms.specs.Columns.{columns_of}
use Rattle.bloom_forms.specs.Form.{RuleForm}
use Rattle.bloom_forms.specs.Lookup.{declared}
use Rattle.bloom_forms.specs.Numbered.{IsNumbered}
use Rattle.bloom_forms.specs.Query.{Name, Query, Formula}
use Rattle.bloom_forms.specs.Query.Query.{base, select, project, join, notin, group, at_least}
use Rattle.bloom_forms.specs.Tests.{IsTestOf}
use Rattle.bloom_index.specs.declared.plan.Plan.{Plan}
use Rattle.bloom_index.specs.Code.Plans.{expr_of, ArePlans}

OperandFits-prop : (operand : Operand) (width : ℕ) → IsProp (OperandFits operand width)
OperandFits-prop (Column column) width = hlevel props
OperandFits-prop (Literal value) width = hlevel

TestFits-prop : (test : Test) (width : ℕ) → IsProp (TestFits test width)
TestFits-prop (Compare left op right) width =
    let first = OperandFits-prop left width in
    let second = OperandFits-prop right width in
    hlevel (first, second)
TestFits-prop (And' p a q b) width =
    let first = TestFits-prop a width in
    let second = TestFits-prop b width in
    hlevel (first, second)
TestFits-prop (Or' p a q b) width =
    let first = TestFits-prop a width in
    let second = TestFits-prop b width in
    hlevel (first, second)
TestFits-prop (Not' p a) width = TestFits-prop a width

IsTestOf-prop : (columns : List Name) (formula : Formula) (test : Test) → IsProp (IsTestOf columns formula test)
IsTestOf-prop columns formula test = let fits = TestFits-prop test (length columns) in hlevel (fits, props)

pub IsNumbered-prop : (cs : List Collection) (q : Query) (e : NumberedExpr) → IsProp (IsNumbered cs q e)
IsNumbered-prop cs (base name) (expr.Base number) = hlevel props
IsNumbered-prop cs (select q f) (expr.Select' p e test) =
    let part = IsNumbered-prop cs q e in
    let own = IsTestOf-prop (columns_of (declared cs) q) f test in
    hlevel (part, own)
IsNumbered-prop cs (project q items) (expr.Project' p e numbers) = let part = IsNumbered-prop cs q e in hlevel (part, props)
IsNumbered-prop cs (join a b pairs) (expr.Join' p left r right numbers) =
    let first = IsNumbered-prop cs a left in
    let second = IsNumbered-prop cs b right in
    hlevel (first, second, props)
IsNumbered-prop cs (notin a b pairs) (expr.NotIn' p left r right numbers) =
    let first = IsNumbered-prop cs a left in
    let second = IsNumbered-prop cs b right in
    hlevel (first, second, props)
IsNumbered-prop cs (group q keys agg name) (expr.Group' p e numbers by) = let part = IsNumbered-prop cs q e in hlevel (part, props)
IsNumbered-prop cs (at_least q keys bound) (expr.AtLeast' p e numbers count) = let part = IsNumbered-prop cs q e in hlevel (part, props)
IsNumbered-prop cs q e = hlevel

pub ArePlans-prop : (cs : List Collection) (forms : List RuleForm) (plans : List Plan) → IsProp (ArePlans cs forms plans)
ArePlans-prop cs [] [] = hlevel
ArePlans-prop cs [] (m ∷ plans) = hlevel
ArePlans-prop cs (form ∷ forms) [] = hlevel
ArePlans-prop cs (form ∷ forms) (m ∷ plans) =
    let first = IsNumbered-prop cs form.1 (expr_of m) in
    let others = ArePlans-prop cs forms plans in
    hlevel (first, others)
