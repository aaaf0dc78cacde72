-- What is kept from step to step, by numbers: what is table-only.
use Rattle.std.specs.Prelude.{ℕ, ◌≡◌, ◌==◌, ◌&&◌, ◌||◌, not, Bool, false, IsTrue, List, length, slice_index_or}
use Rattle.std.specs.List.{list_all}
use Rattle.blz_value.specs.Members.{Has}
use Rattle.bloom_forms.specs.declared.numbered.NumberedExpr.{NumberedExpr}
use Rattle.bloom_forms.specs.declared.numbered.NumberedExpr as expr
use Rattle.bloom_forms.specs.declared.numbered.NumberedRule.{NumberedRule}
use Rattle.bloom_forms.specs.Form.{RuleForm, Form, Accepted}
use Rattle.bloom_forms.specs.Heads.{names_of}
use Rattle.bloom_forms.specs.Kinds.{kind_at}
use Rattle.bloom_forms.specs.Lookup.{collection_number}
use Rattle.bloom_forms.specs.Query.{Name}
use Rattle.bloom_forms.specs.Reads.{is_momentary}
use Rattle.bloom_forms.specs.Step.{rules_at}
use Rattle.bloom_index.specs.Code.Growth.{grows_at, kind_grows}

-- whether the collection with a number is kept; where there is none it isn't
abbrev pub lasts_at : List Bool → ℕ → Bool
lasts_at lasting number = slice_index_or lasting number false

-- an expression is kept where all collections that it names are
abbrev pub lasts : List Bool → NumberedExpr → Bool
lasts lasting (expr.Base number) = lasts_at lasting number
lasts lasting (expr.Select' p e test) = lasts lasting e
lasts lasting (expr.Project' p e columns) = lasts lasting e
lasts lasting (expr.Join' p a q b pairs) = lasts lasting a && lasts lasting b
lasts lasting (expr.NotIn' p a q b pairs) = lasts lasting a && lasts lasting b
lasts lasting (expr.Group' p e keys agg) = lasts lasting e
lasts lasting (expr.AtLeast' p e keys bound) = lasts lasting e

-- a rule of another head, or one whose body is kept
abbrev pub lasts_for : List Bool → (head : ℕ) → NumberedRule → Bool
lasts_for lasting head rule = not (rule.head == head) || lasts lasting rule.body

-- whether all rules of a head are table-only
abbrev pub rules_last : Form → ℕ → Bool
rules_last form head = list_all (λ rule. not (is_momentary form.collections form.rules rule.1)) (rules_at form.collections form.rules head)

-- a collection is marked as kept exactly where it is: a table, and a scratch or an output all of whose rules are table-only
abbrev pub IsLastingAt : Form → List Bool → (number : ℕ) → Type 0
IsLastingAt form lasting number = lasts_at lasting number ≡ kind_grows (kind_at form.collections number) (rules_last form number)

-- so are the collections that the rules of a head name
abbrev pub AreLastingBelow : Form → List Bool → (head : ℕ) → Type 0
AreLastingBelow form lasting head = (rule : RuleForm) (name : Name) → Has rule (rules_at form.collections form.rules head) → Has name (names_of rule.1) → IsLastingAt form lasting (collection_number form.collections name)

-- for each collection whether it is kept
pub record AreLasting (a : Accepted) (lasting : List Bool) : Type 0 where
  pub many : length lasting ≡ length a.form.collections
  pub each : (number : ℕ) → IsLastingAt a.form lasting number

-- what grows is kept
abbrev pub GrowLast : (growing lasting : List Bool) → Type 0
GrowLast growing lasting = (number : ℕ) → IsTrue (grows_at growing number) → IsTrue (lasts_at lasting number)

-- of a join one part is kept, of a notin the right one, and of a group and an atleast the part
abbrev pub KeepsEnough : List Bool → NumberedExpr → Type 0
KeepsEnough lasting (expr.Base number) = Unit {0}
KeepsEnough lasting (expr.Select' p e test) = KeepsEnough lasting e
KeepsEnough lasting (expr.Project' p e columns) = KeepsEnough lasting e
KeepsEnough lasting (expr.Join' p a q b pairs) = KeepsEnough lasting a × KeepsEnough lasting b × IsTrue (lasts lasting a || lasts lasting b)
KeepsEnough lasting (expr.NotIn' p a q b pairs) = KeepsEnough lasting a × KeepsEnough lasting b × IsTrue (lasts lasting b)
KeepsEnough lasting (expr.Group' p e keys agg) = KeepsEnough lasting e × IsTrue (lasts lasting e)
KeepsEnough lasting (expr.AtLeast' p e keys bound) = KeepsEnough lasting e × IsTrue (lasts lasting e)
