-- Statements of the laws of a step, and of what an expression reads.
use Rattle.std.specs.Prelude.{ℕ, ◌≡◌, ◌≤◌, ◌<◌, ◌↔◌, ◌⊎◌, Some, List, [], IsTrue, length}
use Rattle.blz_value.specs.Members.{IsWithin}
use Rattle.blz_value.specs.Sets.{IsRowSet}
use Rattle.blz_value.specs.Bits.{bit_of, meets}
use Rattle.bloom_forms.specs.declared.module.Collection.{Collection}
use Rattle.bloom_forms.specs.declared.module.Kind.TheVariants.{Input, Output, Table}
use Rattle.bloom_forms.specs.declared.program.Program.{Program}
use Rattle.bloom_forms.specs.Equations.{Env, Solves, end_env, rules_of, set_named}
use Rattle.bloom_forms.specs.Form.{Accepted, RuleForm}
use Rattle.bloom_forms.specs.Heads.{IsOrdered}
use Rattle.bloom_forms.specs.Kinds.{is_input}
use Rattle.bloom_forms.specs.Lookup.{kind_of, declared}
use Rattle.bloom_forms.specs.OverTables.{over, env_over}
use Rattle.bloom_forms.specs.ProgramStep.{tables_after_step, outputs_of_step, no_arrivals, standing_outputs, empty_tables}
use Rattle.bloom_forms.specs.Query.{Name, Query}
use Rattle.bloom_forms.specs.Reads.{named, cone, direct, kind_set, is_momentary, NamesRule, NamesScratchRule}
use Rattle.bloom_forms.specs.Step.{Sets, set_at, at_end, union_of, tables_after, outputs_of}

-- what the collections hold once the heads are taken solves the equations of the module
abbrev pub EndSolves : Type 0
EndSolves = (a : Accepted) (kept now : Sets) → IsOrdered a.form.collections a.form.rules a.heads
    → Solves a.form (set_named Table a.form.collections kept) (set_named Input a.form.collections now) (end_env a kept now)

-- the equations of a module have one solution
abbrev pub HasOneSolution : Type 0
HasOneSolution = (a : Accepted) (kept now env other : Env) → IsOrdered a.form.collections a.form.rules a.heads
    → Solves a.form kept now env → Solves a.form kept now other → (name : Name) → env name ≡ other name

-- the new tables are what the solution gives to the tables
abbrev pub GivesTables : Type 0
GivesTables = (a : Accepted) (kept now : Sets) (name : Name) → kind_of a.form.collections name ≡ Some Table
    → set_named Table a.form.collections (tables_after a kept now) name ≡ end_env a kept now name

-- the outputs are what the solution gives to the outputs
abbrev pub GivesOutputs : Type 0
GivesOutputs = (a : Accepted) (kept now : Sets) (name : Name) → kind_of a.form.collections name ≡ Some Output
    → set_named Output a.form.collections (outputs_of a kept now) name ≡ end_env a kept now name

-- in a cone are the collections that the expression names, and the cones of the bodies of their rules
abbrev pub ConeUnfolds : Type 0
ConeUnfolds = (cs : List Collection) (rules : List RuleForm) (q : Query) (n : ℕ) → length cs ≤ 32 → n < 64
    → IsTrue (meets (bit_of n) (cone cs rules q))
    ↔ (IsTrue (meets (bit_of n) (named cs q)) ⊎ ((r : RuleForm) × NamesRule cs rules q r × IsTrue (meets (bit_of n) (cone cs rules r.1))))

-- an expression reads the collections that it names, and what the bodies of the rules of those scratches read
abbrev pub DirectUnfolds : Type 0
DirectUnfolds = (cs : List Collection) (rules : List RuleForm) (q : Query) (n : ℕ) → length cs ≤ 32 → n < 64
    → IsTrue (meets (bit_of n) (direct cs rules q))
    ↔ (IsTrue (meets (bit_of n) (named cs q)) ⊎ ((r : RuleForm) × NamesScratchRule cs rules q r × IsTrue (meets (bit_of n) (direct cs rules r.1))))

-- an expression is momentary where it names an input, or a scratch that has a momentary rule
abbrev pub MomentaryUnfolds : Type 0
MomentaryUnfolds = (cs : List Collection) (rules : List RuleForm) (q : Query) → length cs ≤ 32
    → IsTrue (is_momentary cs rules q)
    ↔ (IsTrue (meets (kind_set is_input cs) (named cs q)) ⊎ ((r : RuleForm) × NamesScratchRule cs rules q r × IsTrue (is_momentary cs rules r.1)))

-- after any step the next one, with nothing arriving, leaves the tables as they are and puts out nothing that wasn't put out; over empty tables it puts out nothing
pub record StandsStill (program : Program) : Type 0 where
  pub tables : (kept now : Sets) → tables_after_step program (tables_after_step program kept now) (no_arrivals program) ≡ tables_after_step program kept now
  pub outputs : (kept now : Sets) (output : ℕ) → IsWithin (set_at (standing_outputs program (tables_after_step program kept now)) output) (set_at (outputs_of_step program kept now) output)
  pub empty : (output : ℕ) → set_at (standing_outputs program (empty_tables program)) output ≡ []

-- the module with its heads in another order
abbrev pub with_heads : Accepted → List ℕ → Accepted
with_heads a heads = record { form = a.form; heads = heads }

-- a step with the heads in another order makes the same
pub record StepsSame (a : Accepted) (heads : List ℕ) : Type 0 where
  pub collections : (kept now : Sets) → at_end a kept now ≡ at_end (with_heads a heads) kept now
  pub tables : (kept now : Sets) → tables_after a kept now ≡ tables_after (with_heads a heads) kept now
  pub outputs : (kept now : Sets) → outputs_of a kept now ≡ outputs_of (with_heads a heads) kept now

-- over tables that are sets each collection holds what its kind says
abbrev pub HoldsByKind : Accepted → Type 0
HoldsByKind a = (tables now : Sets) → ((name : Name) → kind_of a.form.collections name ≡ Some Table → IsRowSet (set_named Table a.form.collections tables name)) → (name : Name)
    → env_over a tables now name ≡ over (kind_of a.form.collections name) (set_named Table a.form.collections tables name) (set_named Input a.form.collections now name) (union_of (declared a.form.collections) (env_over a tables now) (rules_of a.form.rules name))

-- what the collections hold at the end of a step is what they hold over its new tables
abbrev pub EndsOver : Accepted → Type 0
EndsOver a = (kept now : Sets) (name : Name) → end_env a kept now name ≡ env_over a (tables_after a kept now) now name
