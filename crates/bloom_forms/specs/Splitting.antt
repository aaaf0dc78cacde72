-- The split law: the rows of a rule, and of an output, are those that it has over each class of records by itself.
use Rattle.std.specs.Prelude.{ℕ, ◌≡◌, ◌↔◌, Some, Bool, is_some, List, [], ◌∷◌, ◌++◌, map}
use Rattle.std.specs.List.{AllZip}
use Rattle.blz_value.specs.Members.{Has}
use Rattle.blz_value.specs.Operators.{cells}
use Rattle.blz_value.specs.Record.{Row}
use Rattle.blz_value.specs.declared.attrs.Fd.{Fd}
use Rattle.bloom_forms.specs.declared.program.Program.{Program}
use Rattle.bloom_forms.specs.declared.program.Program.TheVariants.{Module}
use Rattle.bloom_forms.specs.Form.{RuleForm, Accepted}
use Rattle.bloom_forms.specs.ProgramStep.{answer_of}
use Rattle.bloom_forms.specs.Query.{Name}
use Rattle.bloom_forms.specs.Step.{Sets, set_at}
use Rattle.bloom_forms.specs.Steps.{tables_after_steps, AreArrivals}
use Rattle.bloom_forms.specs.Annotation.{note_of, gate_of_output, roots_of_output, rule_gate, rule_use}
use Rattle.bloom_forms.specs.HeadRoots.{roots_named, roots_table}
use Rattle.bloom_forms.specs.Roots.{Roots, root_at}
use Rattle.bloom_forms.specs.Classes.{AreKeyed, IsInClosure, of_class}
use Rattle.bloom_forms.specs.Runs.{query_rows, output_rows, rows_over}

-- in each step after some others the rows are those that some class has over its records alone
abbrev pub StepsSplit : (names : List Name) → (program : Program) → (rows : (kept now : Sets) → List Row)
    → (is_used : ℕ → Bool) → (gate : ℕ) → Type 0
StepsSplit names program rows is_used gate = (earlier : List Sets) (now : Sets) (fds : List Fd) (key : List ℕ) (class_of : Row → Row)
    → AreArrivals program (earlier ++ now ∷ []) → AreKeyed names program (earlier ++ now ∷ []) is_used fds key → IsInClosure key gate fds
    → (row : Row) → Has row (rows (tables_after_steps program earlier) now)
    ↔ ((class : Row) × Has row (rows (tables_after_steps program (map (of_class names program key class_of class) earlier)) (of_class names program key class_of class now)))

-- so are the rows over all steps
abbrev pub RunsSplit : (names : List Name) → (program : Program) → (rows : (kept now : Sets) → List Row)
    → (is_used : ℕ → Bool) → (gate : ℕ) → Type 0
RunsSplit names program rows is_used gate = (nows : List Sets) (fds : List Fd) (key : List ℕ) (class_of : Row → Row)
    → AreArrivals program nows → AreKeyed names program nows is_used fds key → IsInClosure key gate fds
    → (row : Row)
    → Has row (rows_over program rows nows) ↔ ((class : Row) × Has row (rows_over program rows (map (of_class names program key class_of class) nows)))

-- by any key that lies in the closure of the gate, and any classes of its values
pub record SplitsByClass (names : List Name) (program : Program) (rows : (kept now : Sets) → List Row) (is_used : ℕ → Bool) (gate : ℕ) : Type 0 where
  pub steps : StepsSplit names program rows is_used gate
  pub runs : RunsSplit names program rows is_used gate

-- a rule splits by what lies in the closure of its gate
abbrev pub SplitRules : (names : List Name) → Accepted → Type 0
SplitRules names a = (rule : RuleForm) → Has rule a.form.rules → SplitsByClass names (Module a) (query_rows a rule.1) (λ port. is_some (rule_use names a rule port)) (rule_gate names a rule)

-- an output splits by what lies in the closure of its gate
abbrev pub SplitOutputs : (names : List Name) → Program → Type 0
SplitOutputs names program = (output : ℕ) → SplitsByClass names program (output_rows program output) (λ port. is_some (note_of names program port output)) (gate_of_output names program output)

-- the one-step answer of an output is that of the records of each key value by themselves
abbrev pub AnswersByKey : (names : List Name) → Program → Type 0
AnswersByKey names program = (output : ℕ) (now : Sets) (fds : List Fd) (key : List ℕ)
    → AreArrivals program (now ∷ [])
    → AreKeyed names program (now ∷ []) (λ port. is_some (note_of names program port output)) fds key
    → IsInClosure key (gate_of_output names program output) fds
    → (row : Row)
    → Has row (set_at (answer_of program now) output) ↔ ((value : Row) × Has row (set_at (answer_of program (of_class names program key (λ values. values) value now)) output))

-- the columns with these numbers have the attributes of a key as their roots
abbrev pub AreKeyColumns : Roots → (numbers key : List ℕ) → Type 0
AreKeyColumns roots numbers key = AllZip (λ number attribute. root_at roots number ≡ Some attribute) numbers key

-- each row over the records of one value of a key has that value in columns whose roots are the key
abbrev pub RowsHaveKey : (names : List Name) → (program : Program) → (rows : (kept now : Sets) → List Row) → Roots → Type 0
RowsHaveKey names program rows roots = (earlier : List Sets) (now : Sets) (key numbers : List ℕ) (value row : Row) → AreArrivals program (earlier ++ now ∷ []) → AreKeyColumns roots numbers key
    → Has row (rows (tables_after_steps program (map (of_class names program key (λ values. values) value) earlier)) (of_class names program key (λ values. values) value now))
    → cells numbers row ≡ value

-- so it is of the rows of a rule, by the roots of its head
abbrev pub RulesKeepKeys : (names : List Name) → Accepted → Type 0
RulesKeepKeys names a = (rule : RuleForm) → Has rule a.form.rules → RowsHaveKey names (Module a) (query_rows a rule.1) (roots_named a.form.collections (roots_table names a) rule.0)

-- and of an output
abbrev pub OutputsKeepKeys : (names : List Name) → Program → Type 0
OutputsKeepKeys names program = (output : ℕ) → RowsHaveKey names program (output_rows program output) (roots_of_output names program output)
