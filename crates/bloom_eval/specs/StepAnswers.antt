-- What a step asks of a module and of its sets, and what it answers.
use Rattle.std.specs.Prelude.{ℕ, ◌≡◌, ◌<◌, ◌≤◌, Result, Ok, Err, List, [], ◌∷◌, ◌++◌, length, map}
use Rattle.std.specs.List.{flat_map}
use Rattle.blz_value.specs.Members.{Has}
use Rattle.blz_value.specs.Record.{Row}
use Rattle.blz_set.specs.RecordSet.{row_limit}
use Rattle.blz_set.specs.declared.fault.SetFault.{SetFault}
use Rattle.blz_set.specs.declared.fault.SetFault.TheVariants as set
use Rattle.bloom_forms.specs.declared.module.Collection.{Collection}
use Rattle.bloom_forms.specs.Form.{RuleForm, Accepted}
use Rattle.bloom_forms.specs.Lookup.{collection_number, declared}
use Rattle.bloom_forms.specs.Columns.{columns_of}
use Rattle.bloom_forms.specs.Heads.{IsOrdered}
use Rattle.bloom_forms.specs.Query.{Name, Query}
use Rattle.bloom_forms.specs.Query.Query.{base, select, project, join, notin, group, at_least}
use Rattle.bloom_forms.specs.Rows.{rows_of}
use Rattle.bloom_forms.specs.Step.{Sets, set_at, rows_named, at_end, tables_after, outputs_of}
use Rattle.bloom_eval.specs.declared.fault.StepFault.{StepFault}
use Rattle.bloom_eval.specs.declared.fault.StepFault.TheVariants.{TooManyRows, NoMemory}

-- ---- what a step asks

-- a rule has a head that is no port, and as many columns in the body as in the head
pub record IsGoodRule (cs : List Collection) (heads : List ℕ) (rule : RuleForm) : Type 0 where
  pub head : Has (collection_number cs rule.0) heads
  pub wide : length (columns_of (declared cs) rule.1) ≡ length (declared cs rule.0)

-- the heads of a module are in order, and its rules are good
pub record IsRunnable (a : Accepted) : Type 0 where
  pub ordered : IsOrdered a.form.collections a.form.rules a.heads
  pub rules : (rule : RuleForm) → Has rule a.form.rules → IsGoodRule a.form.collections a.heads rule

-- ---- the sets that count

-- an expression and its parts
abbrev pub parts_of : Query → List Query
parts_of (base name) = base name ∷ []
parts_of (select q f) = select q f ∷ parts_of q
parts_of (project q items) = project q items ∷ parts_of q
parts_of (join a b pairs) = join a b pairs ∷ (parts_of a ++ parts_of b)
parts_of (notin a b pairs) = notin a b pairs ∷ (parts_of a ++ parts_of b)
parts_of (group q keys agg name) = group q keys agg name ∷ parts_of q
parts_of (at_least q keys bound) = at_least q keys bound ∷ parts_of q

-- the rows of an expression and of its parts
abbrev pub part_sets : (Name → List Name) → (Name → List Row) → Query → Sets
part_sets columns env q = map (rows_of columns env) (parts_of q)

-- no set has more than 262,144 rows
abbrev pub AllFit : Sets → Type 0
AllFit sets = (rows : List Row) → Has rows sets → length rows ≤ row_limit

-- a set has more than 262,144 rows
pub record SomeIsOver (sets : Sets) : Type 0 where
  pub rows : List Row
  pub stands : Has rows sets
  pub over : row_limit < length rows

-- the rows of each part of the bodies of some rules
abbrev pub rule_sets : (Name → List Name) → (Name → List Row) → List RuleForm → Sets
rule_sets columns env rules = flat_map (λ rule. part_sets columns env rule.1) rules

-- the sets that count, where the collections hold these at the end: the sets of tables, scratches and outputs, and the rows of each part of each rule's body
abbrev pub counted_at : Accepted → Sets → Sets
counted_at a end = map (set_at end) a.heads ++ rule_sets (declared a.form.collections) (rows_named a.form.collections end) a.form.rules

-- the sets that count in a step
abbrev pub counted_sets : Accepted → (kept now : Sets) → Sets
counted_sets a kept now = counted_at a (at_end a kept now)

-- the new tables and the outputs of a step; TooManyRows comes exactly where a set that counts has too many rows
abbrev pub StepGives : Accepted → (kept now new : Sets) → Result Sets StepFault → Type 0
StepGives a kept now new (Ok outs) = (new ≡ tables_after a kept now) × (outs ≡ outputs_of a kept now) × AllFit (counted_sets a kept now)
StepGives a kept now new (Err TooManyRows) = SomeIsOver (counted_sets a kept now)
StepGives a kept now new (Err NoMemory) = Unit {0}

-- the fault of a step that a fault of a set makes
abbrev pub step_fault : SetFault → StepFault
step_fault set.TooManyRows = TooManyRows
step_fault set.NoMemory = NoMemory
