-- The tables that are kept have rows of their widths, each has the rows of its collection, and what is kept of the rules can be looked into.
use Rattle.std.proofs.Common.{◌≡◌, ◌<◌, ℕ, List, [], length, Option, None, Some, Result, Ok, Err, ap, ◌∙◌, sym, subst, arith}
use Rattle.std.proofs.lemmas.List.{length-map}
use Rattle.std.specs.Result.{IsErrAnd}
use Rattle.bloom_eval.proofs.EmptyTables.{empties_wide}
use Rattle.bloom_forms.specs.declared.module.Kind.TheVariants.{Table}
use Rattle.bloom_forms.specs.declared.module.Collection.{Collection}
use Rattle.bloom_forms.specs.declared.program.Program.TheVariants.{Module}
use Rattle.bloom_forms.specs.Form.{Accepted}
use Rattle.bloom_forms.specs.Kinds.{of_kind, kind_at, place_in_kind}
use Rattle.bloom_forms.specs.Program.{columns_of_kind, table_columns}
use Rattle.bloom_forms.specs.ProgramStep.{empty_tables}
use Rattle.bloom_forms.specs.Step.{Sets, set_at}
use Rattle.bloom_forms.specs.Widths.{AreSetsOf}
use Rattle.bloom_forms.proofs.Collections.Numbers.{set-of_kind}
use Rattle.bloom_forms.proofs.Ends.SameEnds.{none_at}
use Rattle.bloom_eval.specs.declared.fault.StepFault.{StepFault}
use Rattle.bloom_eval.proofs.Widths.{length-sets_of}
use Rattle.bloom_index.specs.declared.plan.Plan.{Plan}
use Rattle.bloom_index.specs.declared.step.Parts.{Parts}
use Rattle.bloom_index.specs.Code.Kept.{tables_in, held_over, kept_tables, PlansStand, PartsStand, KeptStands}
use Rattle.bloom_index.specs.Code.SideParts.{AreKept}
use Rattle.bloom_index.proofs.LastsLemmas.{grow_last}

module _ (a : Accepted) where
  pub kept_wide : (parts : Option Parts) → KeptStands a parts → AreSetsOf (columns_of_kind Table a.form.collections) (kept_tables a parts)
  kept_wide None stands = empties_wide (columns_of_kind Table a.form.collections)
  kept_wide (Some parts) stands = stands.wide

  -- there is a table for each that is kept
  pub table_within : (parts : Parts) → PartsStand a parts → (table : ℕ) → table < length (tables_in a parts.rows.items) → table < length (of_kind Table a.form.collections)
  table_within parts stands table lt =
      omega (arith, lt, length-sets_of (columns_of_kind Table a.form.collections) (tables_in a parts.rows.items) stands.wide, length-map (of_kind Table a.form.collections) (λ (c : Collection). c.columns))

  -- the rows of the collection that is a table are those of the table
  pub table_rows : (parts : Parts) → PartsStand a parts → (table number : ℕ) → kind_at a.form.collections number ≡ Some Table → place_in_kind Table a.form.collections number ≡ table → set_at parts.rows.items number ≡ set_at (tables_in a parts.rows.items) table
  table_rows parts stands table number kind place =
      sym (set-of_kind Table a.form.collections parts.rows.items number stands.many kind) ∙ ap (set_at (tables_in a parts.rows.items)) place

  pub no_table : (table : ℕ) → set_at (empty_tables (Module a)) table ≡ []
  no_table table = none_at (table_columns (Module a)) table

  -- ---- sides

  abbrev pub are_kept : (parts : Parts) → PartsStand a parts → (plans : List Plan) → plans ≡ parts.plans.items → AreKept parts.growing.items plans
  are_kept parts stands plans is =
      let sets = held_over a (tables_in a parts.rows.items) in
      record {
        lasting = parts.lasting.items;
        sets = sets;
        last = grow_last a parts.growing.items parts.lasting.items stands.growing stands.lasting;
        stand = subst (PlansStand parts.growing.items parts.lasting.items sets) (sym is) stands.plans;
      }

-- what holds of a step of an equal module, over tables that are kept and what arrives
pub step_moved : (P : Accepted → (kept now : Sets) → Type 0) (a b : Accepted) (rows kept now other : Sets) → b ≡ a → tables_in a rows ≡ kept → other ≡ now → P b (tables_in b rows) other → P a kept now
step_moved P a b rows kept now other same is arrives h =
    subst (λ (tables : Sets). P a tables now) is
    (subst (λ (n : Sets). P a (tables_in a rows) n) arrives
    (subst (λ (c : Accepted). P c (tables_in c rows) other) same h))

-- a fault that is handed on is the one that there was
pub step_handed : (X Y : Type 0) (r : Result X StepFault) (s : Result Y StepFault) (fault other : StepFault) → IsErrAnd r (λ d. d ≡ fault) → r ≡ Err other → s ≡ Err fault → s ≡ Err other
step_handed X Y (Ok x) s fault other is handed was = absurd is
step_handed X Y (Err d) s fault other is handed was =
    let same : d ≡ other = cc in
    was ∙ ap Err (sym is ∙ same)
