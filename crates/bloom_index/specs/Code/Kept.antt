-- What an indexed shell keeps of its program, and when it stands for what the tables give.
use Rattle.std.specs.Prelude.{ℕ, ◌≡◌, Bool, false, IsTrue, Option, None, Some, List, length, slice_get}
use Rattle.blz_value.specs.Members.{Has}
use Rattle.bloom_eval.specs.Changes.{AreChanges}
use Rattle.bloom_forms.specs.declared.module.Kind.TheVariants.{Table}
use Rattle.bloom_forms.specs.declared.numbered.NumberedRule.{NumberedRule}
use Rattle.bloom_forms.specs.declared.program.Program.TheVariants.{Module}
use Rattle.bloom_forms.specs.Form.{Accepted}
use Rattle.bloom_forms.specs.OverTables.{without_table_rules}
use Rattle.bloom_forms.specs.Program.{columns_of_kind}
use Rattle.bloom_forms.specs.ProgramStep.{no_arrivals, standing_outputs, empty_tables}
use Rattle.bloom_forms.specs.Step.{Sets, set_at, at_end, sets_of_kind, tables_after, outputs_of}
use Rattle.bloom_forms.specs.Widths.{AreSetsOf}
use Rattle.bloom_growth.specs.declared.bag.Bag.{Bag}
use Rattle.bloom_index.specs.declared.plan.Plan.{Plan}
use Rattle.bloom_index.specs.declared.step.Parts.{Parts}
use Rattle.bloom_index.specs.Code.Evaluation.{PlanStands}
use Rattle.bloom_index.specs.Code.Growth.{grows_at, AreGrowing}
use Rattle.bloom_index.specs.Code.HeadRules.{HasGiven}
use Rattle.bloom_index.specs.Code.Lasting.{AreLasting}
use Rattle.bloom_index.specs.Code.Plans.{ArePlans, rules_by}

-- the tables, of the rows of all collections by their numbers
abbrev pub tables_in : Accepted → Sets → Sets
tables_in a rows = sets_of_kind Table a.form.collections rows

-- what the collections hold over these tables, with nothing arriving
abbrev pub held_over : Accepted → (tables : Sets) → Sets
held_over a tables = at_end (without_table_rules a) tables (no_arrivals (Module a))

-- what is kept by each plan is that over these sets
abbrev pub PlansStand : (growing lasting : List Bool) → Sets → List Plan → Type 0
PlansStand growing lasting sets plans = (m : Plan) → Has m plans → PlanStands growing lasting sets m

-- the bag of each collection that doesn't grow has, where it needs one, what its rules that are kept give over these sets
abbrev pub BagsStand : (growing lasting : List Bool) → Sets → List NumberedRule → List Bag → Type 0
BagsStand growing lasting sets rules bags = (number : ℕ) (bag : Bag) → slice_get bags number ≡ Some bag → grows_at growing number ≡ false → HasGiven lasting sets rules number bag

-- what is kept stands for the tables among it, which have rows of their widths and stand still: each collection that grows has the rows that it holds over them, and what is kept by the plan of each rule, and the bag of each other collection that needs one, is that over what the collections hold
pub record PartsStand (a : Accepted) (parts : Parts) : Type 0 where
  pub many : length parts.rows.items ≡ length a.form.collections
  pub many_bags : length parts.bags.items ≡ length a.form.collections
  pub wide : AreSetsOf (columns_of_kind Table a.form.collections) (tables_in a parts.rows.items)
  pub growing : AreGrowing a parts.growing.items
  pub lasting : AreLasting a parts.lasting.items
  pub rows : (number : ℕ) → IsTrue (grows_at parts.growing.items number) → set_at parts.rows.items number ≡ set_at (held_over a (tables_in a parts.rows.items)) number
  pub numbered : ArePlans a.form.collections a.form.rules parts.plans.items
  pub bags : BagsStand parts.growing.items parts.lasting.items (held_over a (tables_in a parts.rows.items)) (rules_by a.form.collections a.form.rules parts.plans.items) parts.bags.items
  pub plans : PlansStand parts.growing.items parts.lasting.items (held_over a (tables_in a parts.rows.items)) parts.plans.items
  pub still : tables_after a (tables_in a parts.rows.items) (no_arrivals (Module a)) ≡ tables_in a parts.rows.items

-- what a step puts out, less rows which the tables of before already give
abbrev pub PutsOut : Accepted → (kept now outs : Sets) → Type 0
PutsOut a kept now outs = AreChanges (outputs_of a kept now) (standing_outputs (Module a) kept) outs

-- what is kept, if anything is, stands
abbrev pub KeptStands : Accepted → Option Parts → Type 0
KeptStands a None = Unit {0}
KeptStands a (Some parts) = PartsStand a parts

-- the tables that are kept: where nothing is kept, empty ones
abbrev pub kept_tables : Accepted → Option Parts → Sets
kept_tables a None = empty_tables (Module a)
kept_tables a (Some parts) = tables_in a parts.rows.items
