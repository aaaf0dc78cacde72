-- One record that arrived is what all columns of a row with roots are copied from: of the rows of expressions, of rules and of outputs.
use Rattle.std.specs.Prelude.{ℕ, List, [], ◌∷◌, ◌++◌}
use Rattle.blz_value.specs.Members.{Has}
use Rattle.blz_value.specs.Record.{Row}
use Rattle.bloom_forms.specs.declared.program.Program.{Program}
use Rattle.bloom_forms.specs.declared.program.Program.TheVariants.{Module}
use Rattle.bloom_forms.specs.Equations.{end_env}
use Rattle.bloom_forms.specs.Form.{RuleForm, Accepted}
use Rattle.bloom_forms.specs.Lookup.{declared}
use Rattle.bloom_forms.specs.ProgramStep.{outputs_of_step}
use Rattle.bloom_forms.specs.Query.{Name, Query}
use Rattle.bloom_forms.specs.Rows.{rows_of}
use Rattle.bloom_forms.specs.Step.{Sets, set_at}
use Rattle.bloom_forms.specs.Steps.{tables_after_steps, AreArrivals}
use Rattle.bloom_forms.specs.Annotation.{roots_of_output}
use Rattle.bloom_forms.specs.Copies.{feeds_query, feeds_output, HasOrigin}
use Rattle.bloom_forms.specs.HeadRoots.{roots_named, roots_table}
use Rattle.bloom_forms.specs.Roots.{Roots, roots_of}

-- the rows of an expression in a step after some others
abbrev pub rows_in_step : Accepted → (earlier : List Sets) → (now : Sets) → Query → List Row
rows_in_step a earlier now q = rows_of (declared a.form.collections) (end_env a (tables_after_steps (Module a) earlier) now) q

-- the roots of an expression over the collections of a module
abbrev pub query_roots : (names : List Name) → Accepted → Query → Roots
query_roots names a q = roots_of (declared a.form.collections) (roots_named a.form.collections (roots_table names a)) q

-- each row of an expression has an origin
abbrev pub ExpressionsHaveOrigins : (names : List Name) → Accepted → Type 0
ExpressionsHaveOrigins names a = (earlier : List Sets) (now : Sets) (q : Query) (row : Row) → AreArrivals (Module a) (earlier ++ now ∷ []) → Has row (rows_in_step a earlier now q)
    → HasOrigin names (Module a) (earlier ++ now ∷ []) (feeds_query a q) (query_roots names a q) row

-- each row of a rule has an origin for the roots of the rule's head too
abbrev pub RulesHaveOrigins : (names : List Name) → Accepted → Type 0
RulesHaveOrigins names a = (earlier : List Sets) (now : Sets) (rule : RuleForm) (row : Row) → AreArrivals (Module a) (earlier ++ now ∷ []) → Has rule a.form.rules → Has row (rows_in_step a earlier now rule.1)
    → HasOrigin names (Module a) (earlier ++ now ∷ []) (feeds_query a rule.1) (roots_named a.form.collections (roots_table names a) rule.0) row

-- each row of an output has an origin
abbrev pub OutputsHaveOrigins : (names : List Name) → Program → Type 0
OutputsHaveOrigins names program = (earlier : List Sets) (now : Sets) (output : ℕ) (row : Row) → AreArrivals program (earlier ++ now ∷ []) → Has row (set_at (outputs_of_step program (tables_after_steps program earlier) now) output)
    → HasOrigin names program (earlier ++ now ∷ []) (feeds_output program output) (roots_of_output names program output) row
