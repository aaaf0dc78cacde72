-- What a rule or an output sees of its ports: nothing but what arrives there; late records at ports that are R; and silence at ports that are O.
use Rattle.std.specs.Prelude.{ℕ, ◌≡◌, ◌<◌, Bool, IsTrue, Option, is_some, List, [], ◌∷◌, ◌++◌, length}
use Rattle.std.specs.List.{AllZip}
use Rattle.blz_value.specs.Members.{Has, IsWithin, HaveEqualMembers}
use Rattle.blz_value.specs.Record.{Row}
use Rattle.bloom_forms.specs.declared.program.Program.{Program}
use Rattle.bloom_forms.specs.declared.program.Program.TheVariants.{Module, Split, Latest, Number}
use Rattle.bloom_forms.specs.Form.{RuleForm, Accepted}
use Rattle.bloom_forms.specs.Program.{port_columns}
use Rattle.bloom_forms.specs.Query.{Name}
use Rattle.bloom_forms.specs.Step.{Sets, set_at}
use Rattle.bloom_forms.specs.declared.note.Note.{Note}
use Rattle.bloom_forms.specs.Annotation.{note_of, rule_use}
use Rattle.bloom_forms.specs.Given.{is_o, is_w}
use Rattle.bloom_forms.specs.Runs.{query_over, output_over, at_once}

-- nothing arrives at the ports that pass a test, in any of some timesteps
abbrev pub AreSilentAt : Program → (test : (port : ℕ) → Bool) → List Sets → Type 0
AreSilentAt program test nows = (now : Sets) → Has now nows → (port : ℕ) → port < length (port_columns program) → IsTrue (test port) → set_at now port ≡ []

-- the same records arrive at the ports that pass a test
abbrev pub AreSameAt : Program → (test : (port : ℕ) → Bool) → (now other : Sets) → Type 0
AreSameAt program test now other = (port : ℕ) → port < length (port_columns program) → IsTrue (test port) → HaveEqualMembers (set_at now port) (set_at other port)

-- no record at the ports that pass a test is missing
abbrev pub AreMoreAt : Program → (test : (port : ℕ) → Bool) → (fewer more : Sets) → Type 0
AreMoreAt program test fewer more = (port : ℕ) → port < length (port_columns program) → IsTrue (test port) → IsWithin (set_at fewer port) (set_at more port)

-- ports that are given nothing make no difference, and where nothing arrives at the others there are no rows. Where nothing arrives before one timestep, nor after it at ports that are W, the rows are those of one timestep with all records; and more records at ports that aren't W lose no row
pub record SeesItsPorts (program : Program) (given : (port : ℕ) → Option Note) (over : List Sets → List Row) : Type 0 where
  pub only : (nows others : List Sets) → AllZip (AreSameAt program (λ port. is_some (given port))) nows others → over nows ≡ over others
  pub none : (nows : List Sets) → AreSilentAt program (λ port. is_some (given port)) nows → over nows ≡ []
  pub partition : (earlier later : List Sets) (now : Sets) → AreSilentAt program (λ port. is_some (given port)) earlier
      → AreSilentAt program (λ port. is_w (given port)) later
      → over (earlier ++ now ∷ later) ≡ over (at_once program (earlier ++ now ∷ later) ∷ [])
  pub late : (fewer more : Sets) → AreMoreAt program (λ port. is_some (given port)) fewer more
      → AreSameAt program (λ port. is_w (given port)) fewer more → IsWithin (over (fewer ∷ [])) (over (more ∷ []))

-- where some port is O, and nothing arrives at any that is, there are no rows
abbrev pub IsSilent : Program → (given : (port : ℕ) → Option Note) → (over : List Sets → List Row) → Type 0
IsSilent program given over = (port : ℕ) → port < length (port_columns program) → IsTrue (is_o (given port)) → (nows : List Sets) → AreSilentAt program (λ other. is_o (given other)) nows → over nows ≡ []

abbrev pub RulesSeePorts : (names : List Name) → Accepted → Type 0
RulesSeePorts names a = (rule : RuleForm) → Has rule a.form.rules → SeesItsPorts (Module a) (rule_use names a rule) (query_over a rule.1) × IsSilent (Module a) (rule_use names a rule) (query_over a rule.1)

abbrev pub OutputsSeePorts : (names : List Name) → Program → Type 0
OutputsSeePorts names program = (output : ℕ) → SeesItsPorts program (λ port. note_of names program port output) (output_over program output)

-- the output of a stock body is like one rule
abbrev pub StockIsSilent : (names : List Name) → Program → Type 0
StockIsSilent names (Module a) = Unit {0}
StockIsSilent names (Split columns split) = (output : ℕ) → IsSilent (Split columns split) (λ port. note_of names (Split columns split) port output) (output_over (Split columns split) output)
StockIsSilent names (Latest columns keys) = (output : ℕ) → IsSilent (Latest columns keys) (λ port. note_of names (Latest columns keys) port output) (output_over (Latest columns keys) output)
StockIsSilent names (Number columns) = (output : ℕ) → IsSilent (Number columns) (λ port. note_of names (Number columns) port output) (output_over (Number columns) output)
