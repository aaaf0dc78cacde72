-- What a step over some entries leaves, whose puts are read in a pool.
use Rattle.std.specs.Prelude.{◌≡◌, Result, Ok, Err, List}
use Rattle.blz_pool.specs.Entries.{EntryId}
use Rattle.blz_value.specs.Record.{Row}
use Rattle.bloom_forms.specs.Form.{Accepted}
use Rattle.bloom_forms.specs.Step.{Sets, tables_after}
use Rattle.bloom_eval.specs.declared.fault.StepFault.{StepFault}
use Rattle.bloom_eval.specs.declared.fault.StepFault.TheVariants.{TooManyRows, NoMemory}
use Rattle.bloom_eval.specs.declared.puts.Put.{Put}
use Rattle.bloom_eval.specs.Puts.{puts_in, ArePutOf}
use Rattle.bloom_eval.specs.StepAnswers.{AllFit, SomeIsOver, counted_sets}
use Rattle.bloom_index.specs.declared.step.Parts.{Parts}
use Rattle.bloom_index.specs.Code.Kept.{tables_in, PartsStand, PutsOut}

-- what is kept stands for the tables after the step, and what is put out is right in a pool with these records, with ids of these entries
pub record HasStepped (a : Accepted) (tables : Sets) (after : Parts) (now : Sets) (records : List Row) (entries : List EntryId) (puts : List Put) : Type 0 where
  pub parts : PartsStand a after
  pub tables_are : tables_in a after.rows.items ≡ tables_after a tables now
  pub outs : PutsOut a tables now (puts_in records puts)
  pub ids : ArePutOf entries puts
  pub few : AllFit (counted_sets a tables now)

-- the answer is such a step; TooManyRows comes only where a set of it is too large
abbrev pub StepsTo : (a : Accepted) (tables : Sets) (after : Parts) (now : Sets) (records : List Row) (entries : List EntryId) (puts : List Put) → Result (Unit {0}) StepFault → Type 0
StepsTo a tables after now records entries puts (Ok x) = HasStepped a tables after now records entries puts
StepsTo a tables after now records entries puts (Err TooManyRows) = SomeIsOver (counted_sets a tables now)
StepsTo a tables after now records entries puts (Err NoMemory) = Unit {0}
