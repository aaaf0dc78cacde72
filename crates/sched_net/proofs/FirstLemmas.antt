-- A new net to which steps are applied: they go on from the first execution, and the net runs where none was refused.
use Rattle.std.proofs.Common.{◌≡◌, ◌++◌, ℕ, OnOk, List, [], Option, Result, Ok, Err, refl, subst}
use Rattle.bloom_forms.specs.declared.program.Program.{Program}
use Rattle.bloom_forms.specs.Step.{Sets}
use Rattle.topo_forms.specs.Data.{Data}
use Rattle.topo_forms.specs.View.{View}
use Rattle.inbox.specs.Executions.{Execution, execution_of, first_execution}
use Rattle.inbox.specs.Wiring.{wiring_of}
use Rattle.inbox.proofs.Executions.Results.{Ok_same}
use Rattle.sched_net.specs.Net.{BooksRun, Runs, Stands, execution_in}
use Rattle.sched_net.specs.declared.books.Books.{Books}
use Rattle.sched_net.specs.Steps.{Applied, Applies, after_lines, steps_in}
use Rattle.sched_net.specs.declared.running.StepRefusal.{StepRefusal}
use Rattle.sched_net.specs.declared.step.Step.{Step as NamedStep}
use Rattle.sched_net.proofs.StepsLemmas.{runs_on}

-- before any step it runs, seen by an equal topology
pub new_runs : (v w : View) (given : Data) (loaded : List (Option Program)) (tables : List Sets) (b : Books) → w ≡ v → Stands v given [] loaded tables b → Runs w loaded tables b
new_runs v w given loaded tables b same stands = runs_on v w given [] loaded loaded tables b same refl stands

-- where all steps were applied it runs
applied_runs : {X : Type 0} (step : X → NamedStep) (v : View) (given : Data) (lines : List (ℕ × X)) (loaded : List (Option Program)) (tables : List Sets) (b : Books) (after : Result Execution StepRefusal) (applied : Result (Unit {0}) StepRefusal)
    → Applied step v given [] loaded tables b lines after applied → OnOk applied (BooksRun v b)
applied_runs step v given lines loaded tables b after (Ok done) reaches = record { given = given; steps = [] ++ steps_in step v lines; stand = reaches.stands.books }
applied_runs step v given lines loaded tables b after (Err refusal) stops = tt

module _ {X : Type 0} (step : X → NamedStep) (v w : View) (given : Data) (lines : List (ℕ × X)) (loaded : List (Option Program)) (tables next : List Sets) (old new : Books) (applied : Result (Unit {0}) StepRefusal) (same : w ≡ v)
    (stands : Stands v given [] loaded tables old) (applies : Applies step w loaded tables next old new lines applied) where
  -- what the steps made of it
  pub applied_first : Applied step v given [] loaded next new lines (after_lines step v given lines first_execution) applied
  applied_first =
      subst (λ (x : Execution). Applied step v given [] loaded next new lines (after_lines step v given lines x) applied)
      (Ok_same (execution_of (wiring_of v) given []) (execution_in stands.books) first_execution stands.books.stands.run refl)
      (subst (λ (u : View). Applies step u loaded tables next old new lines applied) same applies given [] stands)

  pub runs_after : OnOk applied (BooksRun v new)
  runs_after = applied_runs step v given lines loaded next new (after_lines step v given lines first_execution) applied applied_first
