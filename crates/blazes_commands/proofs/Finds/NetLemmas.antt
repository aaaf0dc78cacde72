-- A net of an opened bench comes to the execution of its lines, or the check of events refuses what it refuses.
use Rattle.std.proofs.Common.{◌≡◌, ◌≢◌, ◌∙◌, List, [], ◌∷◌, Option, None, Some, Result, Ok, Err, map, refl, sym, subst, ap}
use Rattle.std.specs.List.{fold}
use Rattle.std.proofs.lemmas.Simd.{map-map}
use Rattle.bloom_eval.specs.declared.kind.ProgramKind.{ProgramKind}
use Rattle.confluence.specs.Complete.{IsRun}
use Rattle.messages.specs.declared.fault.EventFault.TheVariants.{NoMemory}
use Rattle.inbox.specs.Completeness.{IsComplete}
use Rattle.inbox.specs.Events.{event, Refusal}
use Rattle.inbox.specs.Executions.{Execution, after_event, after_step, execution_of, first_execution, result_and_then}
use Rattle.inbox.specs.Wiring.{wiring_of}
use Rattle.inbox.proofs.Executions.Results.{and_then_Ok}
use Rattle.sched_net.specs.Bench.{fault_of_opening}
use Rattle.sched_net.specs.declared.fault.OpenFault.{OpenFault}
use Rattle.sched_net.specs.Numbered.{numbered}
use Rattle.inbox.specs.Limits.{Limit, limit_of_event}
use Rattle.sched_net.specs.ScheduleLines.{Line, steps_of}
use Rattle.sched_net.specs.Steps.{after_line, after_lines, in_line, made_by}
use Rattle.sched_net.specs.declared.running.StepRefusal.{StepRefusal}
use Rattle.sched_net.specs.declared.step.Step.TheVariants as named
use Rattle.topo_forms.specs.Data.{Data}
use Rattle.topo_forms.specs.View.{View}
use Rattle.witness_check.specs.declared.difference.Which.{Which}
use Rattle.witness_check.specs.declared.difference.Which.TheVariants.{First, Second}
use Rattle.command_checks.specs.FileChecks.{line_of}
use Rattle.command_checks.specs.Ends.{Told, Source, files_states, Came, Ends}
use Rattle.command_checks.specs.Ran.{IsStopAt, Stopped, StopsAs}
use Rattle.command_checks.specs.Script.{Script, ◌>>=◌}
use Rattle.command_checks.specs.Script.Ending.{gave}
use Rattle.command_checks.specs.declared.stop.Stop.{Stop}
use Rattle.command_checks.proofs.ScriptLemmas.{came_checked, gives_ran, stop_then}
use Rattle.blazes_commands.specs.Runs.Checks.{event_refusal}
use Rattle.blazes_commands.specs.Finds.Checks as check
use Rattle.blazes_commands.specs.Finds.Code.Seen.{executed_of, refusal_of, run_in}
use Rattle.blazes_commands.proofs.Finds.ScriptsLemmas.{checked_gave, stops_at, then_gave}

-- ---- lines that were all legal

-- the result of one line, where it has one
line_legal : (v : View) (given : Data) (line : Line) (x y : Execution) → after_line named.Event v given line x ≡ Ok y → after_step (wiring_of v) given (event (numbered v line.1)) x ≡ Ok y
line_legal v given line x y is = from (after_event (wiring_of v) given (numbered v line.1) x) (limit_of_event (wiring_of v) given (numbered v line.1) x) is
  where
    from : (after : Result Execution Refusal) (limit : Option Limit) → in_line line.0 (made_by after limit) ≡ Ok y → after ≡ Ok y
    from (Ok z) None is = let same : z ≡ y = cc in ap (λ (x : Execution). Ok x) same
    from (Ok z) (Some limit) is = absurd (cc)
    from (Err refusal) limit is = absurd (cc)

-- lines over an execution that steps have reached
legal_from : (v : View) (given : Data) (lines : List Line) (after : Result Execution StepRefusal) (reached : Result Execution Refusal) (y : Execution) → ((x : Execution) → after ≡ Ok x → reached ≡ Ok x)
    → fold (λ result line. result_and_then result (after_line named.Event v given line)) after lines ≡ Ok y → fold (λ result step. result_and_then result (after_step (wiring_of v) given step)) reached (steps_of v lines) ≡ Ok y
legal_from v given [] after reached y legal is = legal y is
legal_from v given (line ∷ lines) after reached y legal is =
    legal_from v given lines (result_and_then after (after_line named.Event v given line)) (result_and_then reached (after_step (wiring_of v) given (event (numbered v line.1)))) y
    (λ z made.
    let before = and_then_Ok after (after_line named.Event v given line) z made in
    ap (λ (r : Result Execution Refusal). result_and_then r (after_step (wiring_of v) given (event (numbered v line.1)))) (legal before.0 before.1)
    ∙ line_legal v given line before.0 z before.2)
    is

pub lines_legal : (v : View) (given : Data) (lines : List Line) (x : Execution) → after_lines named.Event v given lines first_execution ≡ Ok x → execution_of (wiring_of v) given (steps_of v lines) ≡ Ok x
lines_legal v given lines x is =
    legal_from v given lines (Ok first_execution) (Ok first_execution) x (λ y same. let is : first_execution ≡ y = cc in ap (λ (z : Execution). Ok z) is) is

-- a complete execution of lines is one of events
pub lines_run : (v : View) (given : Data) (lines : List Line) (x : Execution) → after_lines named.Event v given lines first_execution ≡ Ok x → IsComplete (wiring_of v) given x → IsRun (wiring_of v) given x
lines_run v given lines x is complete = record {
  events = map (λ line. numbered v line.1) lines;
  legal = ap (execution_of (wiring_of v) given) (map-map event (λ (line : Line). numbered v line.1) lines) ∙ lines_legal v given lines x is;
  complete = complete;
}

-- ---- what the checks let through

executed_is : (which : Which) (after : Result Execution StepRefusal) (x : Execution) → executed_of which after ≡ Ok x → after ≡ Ok x
executed_is First (Ok y) x is = let same : y ≡ x = cc in ap (λ (z : Execution). Ok z) same
executed_is First (Err refused) x is = absurd (cc)
executed_is Second (Ok y) x is = let same : y ≡ x = cc in ap (λ (z : Execution). Ok z) same
executed_is Second (Err refused) x is = absurd (cc)

executed_so : (which : Which) (after : Result Execution StepRefusal) (x : Execution) → after ≡ Ok x → executed_of which after ≡ Ok x
executed_so First after x is = ap check.executed is
executed_so Second after x is = ap check.second_executed is

executed_not : (which : Which) (after : Result Execution StepRefusal) (refused : StepRefusal) → after ≡ Err refused → executed_of which after ≡ Err (line_of (refusal_of which refused))
executed_not First after refused is = ap check.executed is
executed_not Second after refused is = ap check.second_executed is

-- only want of memory is no refusal
some_refusal : (which : Which) (refused : StepRefusal) → refusal_of which refused ≢ None → refused.fault ≢ NoMemory
some_refusal First refused some is = some (ap (event_refusal refused.line) is)
some_refusal Second refused some is = some (ap (check.second_event_refusal refused.line) is)

no_fault : (v : View) (fault : Option OpenFault) (u : Unit {0}) → check.opened v fault ≡ Ok u → fault ≡ None
no_fault v None u is = refl
no_fault v (Some fault) u is = absurd (cc)

module _ (which : Which) (kinds : List ProgramKind) (v : View) (given : Data) (lines : List Line) where
  abbrev faults : Option OpenFault
  faults = fault_of_opening v (λ kind. kind) kinds

  abbrev after : Result Execution StepRefusal
  after = after_lines named.Event v given lines first_execution

  abbrev events : Script Execution
  events = check.checked (executed_of which after)

  -- a script that gave an execution opened a net, and no event was refused
  pub run_gave : (told : Told) (x : Execution) → Ends told (run_in which kinds v given lines) (gave x) → (faults ≡ None) × (after ≡ Ok x)
  run_gave told x ends =
      let opening = then_gave told (check.opening v kinds) (λ opened. events) x ends in
      (no_fault v faults opening.0 (checked_gave told (check.opened v faults) opening.0 opening.1), executed_is which after x (checked_gave told (executed_of which after) x opening.2))

  -- where a net is opened, what follows is all
  pub opened_run : (P : Script Execution → Type 0) → faults ≡ None → P events → P (run_in which kinds v given lines)
  opened_run P opens = subst (λ (fault : Option OpenFault). P (check.checked (check.opened v fault) >>= λ opened. events)) (sym opens)

  pub run_opened : (P : Script Execution → Type 0) → faults ≡ None → P (run_in which kinds v given lines) → P events
  run_opened P opens = subst (λ (fault : Option OpenFault). P (check.checked (check.opened v fault) >>= λ opened. events)) opens

  -- a net that isn't opened stops the script
  pub opening_stops : (s : Source) (stop : Stop) → StopsAs stop (check.opened v faults) → Stopped (files_states s s) stop (run_in which kinds v given lines)
  opening_stops s stop is = stop_then (files_states s s) stop (check.opening v kinds) (λ opened. events) (gives_ran (λ (opened : Unit {0}). opened) s (Err stop) (check.opened v faults) is)

  module _ (opens : check.opened v faults ≡ Ok tt) (s : Source) where
    -- the execution that lines have reached
    pub run_came : (x : Execution) → after ≡ Ok x → Came (files_states s s) (run_in which kinds v given lines) (gave x)
    run_came x is = opened_run (λ run. Came (files_states s s) run (gave x)) (no_fault v faults tt opens) (came_checked s (executed_of which after) x (executed_so which after x is))

    -- an event that was refused
    pub run_stops : (refused : StepRefusal) (stop : Stop) → (refused.fault ≢ NoMemory → after ≡ Err refused) → IsStopAt (refusal_of which refused) stop → Stopped (files_states s s) stop (run_in which kinds v given lines)
    run_stops refused stop is said =
        opened_run (λ run. Stopped (files_states s s) stop run) (no_fault v faults tt opens)
        (stops_at s (executed_of which after) (refusal_of which refused) stop (λ some. executed_not which after refused (is (some_refusal which refused some))) said)
