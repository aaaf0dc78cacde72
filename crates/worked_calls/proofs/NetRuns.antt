-- A net that is opened runs, seen by an equal topology, and so it does after steps of which none was refused.
use Rattle.std.proofs.Common.{◌≡◌, ◌++◌, ℕ, OnOk, List, [], Option, Result, Ok, Err, sym, subst}
use Rattle.bloom_forms.specs.declared.program.Program.{Program}
use Rattle.bloom_forms.specs.Step.{Sets}
use Rattle.topo_forms.specs.Data.{Data}
use Rattle.topo_forms.specs.View.{View}
use Rattle.sched_net.specs.Net.{BooksRun, Stands}
use Rattle.sched_net.specs.declared.books.Books.{Books}
use Rattle.sched_run.specs.Making.{RunsFirst}
use Rattle.sched_net.specs.Steps.{Applies, steps_in}
use Rattle.sched_net.specs.declared.running.StepRefusal.{StepRefusal}
use Rattle.sched_net.specs.declared.step.Step.{Step as NamedStep}

pub first_runs : (v w : View) (given : Data) (loaded : List (Option Program)) (tables : List Sets) (b : Books) → w ≡ v → Stands v given [] loaded tables b → RunsFirst w loaded tables b
first_runs v w given loaded tables b same stands =
    subst (λ (u : View). RunsFirst u loaded tables b) (sym same) (record { given = given; stands = stands })

pub still_runs : {X : Type 0} (step : X → NamedStep) (v w : View) (lines : List (ℕ × X)) (loaded : List (Option Program)) (tables next : List Sets) (old new : Books) (applied : Result (Unit {0}) StepRefusal)
    → w ≡ v → RunsFirst v loaded tables old → Applies step v loaded tables next old new lines applied → OnOk applied (BooksRun w new)
still_runs step v w lines loaded tables next old new (Ok done) same runs applies =
    let reaches = applies runs.given [] runs.stands in
    subst (λ (u : View). BooksRun u new) (sym same) (record { given = runs.given; steps = [] ++ steps_in step v lines; stand = reaches.stands.books })
still_runs step v w lines loaded tables next old new (Err refusal) same runs applies = tt
