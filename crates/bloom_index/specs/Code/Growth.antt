-- What grows, by numbers.
use Rattle.std.specs.Prelude.{ℕ, ◌≡◌, ◌==◌, ◌&&◌, ◌||◌, not, Bool, true, false, Option, None, Some, List, length, slice_index_or}
use Rattle.std.specs.List.{list_all}
use Rattle.blz_value.specs.Members.{Has, IsWithin}
use Rattle.blz_value.specs.Record.{Row}
use Rattle.blz_value.specs.Sets.{IsRowSet}
use Rattle.bloom_forms.specs.declared.module.Kind.{Kind}
use Rattle.bloom_forms.specs.declared.module.Kind.TheVariants.{Input, Output, Table, Scratch}
use Rattle.bloom_forms.specs.declared.numbered.NumberedExpr.{NumberedExpr}
use Rattle.bloom_forms.specs.declared.numbered.NumberedExpr as expr
use Rattle.bloom_forms.specs.declared.numbered.NumberedRule.{NumberedRule}
use Rattle.bloom_forms.specs.Form.{RuleForm, Form, Accepted}
use Rattle.bloom_forms.specs.Heads.{names_of}
use Rattle.bloom_forms.specs.Kinds.{kind_at}
use Rattle.bloom_forms.specs.Lookup.{collection_number}
use Rattle.bloom_forms.specs.Query.{Name}
use Rattle.bloom_forms.specs.Step.{rules_at}
use Rattle.bloom_index.specs.Growing.{is_growing}

-- whether the collection with a number grows; where there is none it doesn't
abbrev pub grows_at : List Bool → ℕ → Bool
grows_at growing number = slice_index_or growing number false

-- an expression grows where all collections that it names do, and no group and no notin stands in it
abbrev pub grows : List Bool → NumberedExpr → Bool
grows growing (expr.Base number) = grows_at growing number
grows growing (expr.Select' p e test) = grows growing e
grows growing (expr.Project' p e columns) = grows growing e
grows growing (expr.Join' p a q b pairs) = grows growing a && grows growing b
grows growing (expr.NotIn' p a q b pairs) = false
grows growing (expr.Group' p e keys agg) = false
grows growing (expr.AtLeast' p e keys bound) = grows growing e

-- a rule of another head, or one whose body grows
abbrev pub grows_for : List Bool → (head : ℕ) → NumberedRule → Bool
grows_for growing head rule = not (rule.head == head) || grows growing rule.body

-- whether all rules of a head grow
abbrev pub rules_grow : Form → ℕ → Bool
rules_grow form head = list_all (λ rule. is_growing form.collections form.rules rule.1) (rules_at form.collections form.rules head)

-- a table grows, a scratch and an output where all its rules do, a port never
abbrev pub kind_grows : Option Kind → (ruled : Bool) → Bool
kind_grows None ruled = false
kind_grows (Some Input) ruled = false
kind_grows (Some Table) ruled = true
kind_grows (Some Output) ruled = ruled
kind_grows (Some Scratch) ruled = ruled

-- a collection is marked as growing exactly where it grows
abbrev pub IsMarked : Form → List Bool → (number : ℕ) → Type 0
IsMarked form growing number = grows_at growing number ≡ kind_grows (kind_at form.collections number) (rules_grow form number)

-- so are the collections that the rules of a head name
abbrev pub AreMarkedBelow : Form → List Bool → (head : ℕ) → Type 0
AreMarkedBelow form growing head = (rule : RuleForm) (name : Name) → Has rule (rules_at form.collections form.rules head) → Has name (names_of rule.1) → IsMarked form growing (collection_number form.collections name)

-- for each collection whether it grows
pub record AreGrowing (a : Accepted) (growing : List Bool) : Type 0 where
  pub many : length growing ≡ length a.form.collections
  pub each : (number : ℕ) → IsMarked a.form growing number

-- sets of rows, of which the second has those of the first
pub record IsGrown (old new : List Row) : Type 0 where
  pub old_sorted : IsRowSet old
  pub new_sorted : IsRowSet new
  pub within : IsWithin old new
