-- The confluent law: of the rows of a rule, and of an output.
use Rattle.std.specs.Prelude.{ℕ, ◌≡◌, List, [], ◌∷◌}
use Rattle.blz_value.specs.Members.{Has, IsWithin}
use Rattle.blz_value.specs.Record.{Row}
use Rattle.bloom_forms.specs.declared.program.Program.{Program}
use Rattle.bloom_forms.specs.declared.program.Program.TheVariants.{Module}
use Rattle.bloom_forms.specs.Form.{RuleForm, Accepted}
use Rattle.bloom_forms.specs.Query.{Name}
use Rattle.bloom_forms.specs.Step.{Sets, set_at}
use Rattle.bloom_forms.specs.Annotation.{note_of, rule_use}
use Rattle.bloom_forms.specs.Given.{AreAllC}
use Rattle.bloom_forms.specs.Runs.{at_once, query_over, output_over}

-- no record of the first arrivals is missing in the second
abbrev pub AreAmong : (fewer more : Sets) → Type 0
AreAmong fewer more = (port : ℕ) → IsWithin (set_at fewer port) (set_at more port)

-- what comes of timesteps doesn't depend on how the records are spread over them, and no row is lost when records are added
pub record IsConfluent (program : Program) (over : List Sets → List Row) : Type 0 where
  pub same : (nows : List Sets) → over nows ≡ over (at_once program nows ∷ [])
  pub grows : (fewer more : Sets) → AreAmong fewer more → IsWithin (over (fewer ∷ [])) (over (more ∷ []))

-- a rule whose uses are all CR or CW is confluent
abbrev pub ConfluentRules : (names : List Name) → Accepted → Type 0
ConfluentRules names a = (rule : RuleForm) → Has rule a.form.rules → AreAllC (Module a) (rule_use names a rule) → IsConfluent (Module a) (query_over a rule.1)

-- an output towards which all notes are CR or CW is confluent
abbrev pub ConfluentOutputs : (names : List Name) → Program → Type 0
ConfluentOutputs names program = (output : ℕ) → AreAllC program (λ port. note_of names program port output) → IsConfluent program (output_over program output)
