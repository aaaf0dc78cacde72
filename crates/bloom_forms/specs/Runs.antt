-- Runs: the rows that an expression or an output has over some timesteps, from empty tables.
use Rattle.std.specs.Prelude.{ℕ, ◌≡◌, ◌<◌, ◌↔◌, List, [], ◌∷◌, ◌++◌, map, length}
use Rattle.std.specs.List.{flat_map, range_with_len}
use Rattle.blz_value.specs.Members.{Has}
use Rattle.blz_value.specs.Record.{Row}
use Rattle.blz_value.specs.Sets.{set_of}
use Rattle.bloom_forms.specs.declared.module.Kind.TheVariants.{Output}
use Rattle.bloom_forms.specs.declared.program.Program.{Program}
use Rattle.bloom_forms.specs.declared.program.Program.TheVariants.{Module}
use Rattle.bloom_forms.specs.Equations.{end_env}
use Rattle.bloom_forms.specs.Form.{RuleForm, Accepted}
use Rattle.bloom_forms.specs.Lookup.{declared}
use Rattle.bloom_forms.specs.Program.{port_columns, output_columns}
use Rattle.bloom_forms.specs.ProgramStep.{tables_after_step, outputs_of_step, empty_tables, answer_of}
use Rattle.bloom_forms.specs.Query.{Query}
use Rattle.bloom_forms.specs.Rows.{rows_of}
use Rattle.bloom_forms.specs.Step.{Sets, set_at, rules_at}
use Rattle.bloom_forms.specs.KindNumbers.{number_in_kind}

-- the rows of an expression in a step over what is kept and what arrives
abbrev pub query_rows : Accepted → Query → (kept now : Sets) → List Row
query_rows a q kept now = rows_of (declared a.form.collections) (end_env a kept now) q

-- the rows of an output in such a step
abbrev pub output_rows : Program → (output : ℕ) → (kept now : Sets) → List Row
output_rows program output kept now = set_at (outputs_of_step program kept now) output

-- the rows that some steps give, one after the other, from what is kept on
abbrev pub over_steps : Program → (rows : (kept now : Sets) → List Row) → (kept : Sets) → List Sets → List Row
over_steps program rows kept [] = []
over_steps program rows kept (now ∷ nows) = rows kept now ++ over_steps program rows (tables_after_step program kept now) nows

-- the set of the rows over some timesteps, from empty tables
abbrev pub rows_over : Program → (rows : (kept now : Sets) → List Row) → List Sets → List Row
rows_over program rows nows = set_of (over_steps program rows (empty_tables program) nows)

-- those of an expression
abbrev pub query_over : Accepted → Query → List Sets → List Row
query_over a q nows = rows_over (Module a) (query_rows a q) nows

-- those of an output
abbrev pub output_over : Program → (output : ℕ) → List Sets → List Row
output_over program output nows = rows_over program (output_rows program output) nows

-- the records of some arrivals at a port
abbrev pub arriving_at : (port : ℕ) → List Sets → List Row
arriving_at port nows = set_of (flat_map (λ now. set_at now port) nows)

-- all of some arrivals as the arrivals of one timestep
abbrev pub at_once : Program → List Sets → Sets
at_once program nows = map (λ port. arriving_at port nows) (range_with_len 0 (length (port_columns program)))

-- over one timestep an output has its one-step answer
abbrev pub OneStepAnswers : Program → Type 0
OneStepAnswers program = (output : ℕ) (now : Sets) → output_over program output (now ∷ []) ≡ set_at (answer_of program now) output

-- over any timesteps an output of a module has the rows of its rules
abbrev pub OutputsByRules : Accepted → Type 0
OutputsByRules a = (output : ℕ) → output < length (output_columns (Module a)) → (nows : List Sets) (row : Row)
    → Has row (output_over (Module a) output nows) ↔ ((rule : RuleForm) × Has rule (rules_at a.form.collections a.form.rules (number_in_kind Output a.form.collections output)) × Has row (query_over a rule.1 nows))
