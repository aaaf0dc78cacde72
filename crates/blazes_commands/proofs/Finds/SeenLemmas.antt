-- What is taken of a net is of the execution at the end of the script.
use Rattle.std.proofs.Common.{◌≡◌, ◌++◌, List, [], Option, Result, Ok, Err, sym, subst}
use Rattle.std.specs.Result.{IsErrAnd}
use Rattle.bloom_forms.specs.declared.program.Program.{Program}
use Rattle.bloom_forms.specs.Step.{Sets}
use Rattle.bloom_eval.specs.declared.kind.ProgramKind.{ProgramKind}
use Rattle.sched_net.specs.Bench.{fault_of_opening}
use Rattle.sched_net.specs.Net.{execution_in}
use Rattle.sched_net.specs.declared.books.Books.{Books}
use Rattle.sched_net.specs.ScheduleLines.{Line, steps_of}
use Rattle.sched_net.specs.Steps.{after_lines, Applied}
use Rattle.sched_net.specs.declared.running.StepRefusal.{StepRefusal}
use Rattle.sched_net.specs.declared.step.Step.TheVariants as named
use Rattle.inbox.specs.Executions.{Execution, first_execution}
use Rattle.topo_forms.specs.Data.{Data}
use Rattle.topo_forms.specs.View.{View}
use Rattle.witness_check.specs.declared.difference.Which.{Which}
use Rattle.command_checks.specs.Ends.{files_states}
use Rattle.command_checks.specs.Ran.{Stopped, StopsAs}
use Rattle.command_checks.specs.Script.{Script}
use Rattle.command_checks.specs.declared.stop.Stop.{Stop}
use Rattle.command_checks.proofs.ScriptLemmas.{memory_stops}
use Rattle.blazes_commands.specs.Finds.Checks as check
use Rattle.blazes_commands.specs.Finds.Code.Seen.{IsSeenOf, Sees, run_in}
use Rattle.blazes_commands.specs.declared.find_calls.seeing.Seen.{Seen}
use Rattle.blazes_commands.proofs.Finds.NetLemmas.{opening_stops, run_came, run_stops}

-- a part that hands on a stop
pub stop_sees : (v : View) (given : Data) (run : Script Execution) (result : Result Seen Stop) (stop : Stop) → IsErrAnd result (λ given. given ≡ stop) → Sees v given run (Err stop) → Sees v given run result
stop_sees v given run (Ok seen) stop is stopped = absurd is
stop_sees v given run (Err other) stop is stopped = λ s. subst (λ (z : Stop). Stopped (files_states s s) z run) (sym is) (stopped s)

module _ (which : Which) (kinds : List ProgramKind) (v : View) (given : Data) (lines : List Line) where
  -- where the net isn't opened
  pub opening_sees : (result : Result Seen Stop) (stop : Stop) → IsErrAnd result (λ given. given ≡ stop) → StopsAs stop (check.opened v (fault_of_opening v (λ k. k) kinds)) → Sees v given (run_in which kinds v given lines) result
  opening_sees result stop is gives = stop_sees v given (run_in which kinds v given lines) result stop is (λ s. opening_stops which kinds v given lines s stop gives)

  -- where it is, and its lines are applied or one is refused
  pub net_sees : (loaded : List (Option Program)) (next : List Sets) (new : Books) (applied : Result (Unit {0}) StepRefusal) (outcome : Result Seen Stop) → check.opened v (fault_of_opening v (λ k. k) kinds) ≡ Ok tt
      → Applied named.Event v given [] loaded next new lines (after_lines named.Event v given lines first_execution) applied → IsSeenOf which v new applied outcome → Sees v given (run_in which kinds v given lines) outcome
  net_sees loaded next new (Ok done) (Ok seen) opens reaches said = record {
    execution = execution_in reaches.stands.books;
    came = λ s. run_came which kinds v given lines opens s (execution_in reaches.stands.books) reaches.reached;
    says = said given ([] ++ steps_of v lines) reaches.stands.books;
  }
  net_sees loaded next new (Ok done) (Err stop) opens reaches said = λ s. memory_stops (files_states s s) (run_in which kinds v given lines) stop said
  net_sees loaded next new (Err refused) (Ok seen) opens stops said = absurd said
  net_sees loaded next new (Err refused) (Err stop) opens stops said = λ s. run_stops which kinds v given lines opens s refused stop stops.0 said
