-- A run replies as its script says: the net is opened, the steps make an execution, and the shells go back.
use Rattle.std.proofs.Common.{◌≡◌, ◌≢◌, ◌∙◌, ◌++◌, ℕ, List, [], Option, Result, Ok, Err, map, ap}
use Rattle.std.specs.List.Sorted.{IsPermutation}
use Rattle.bloom_forms.specs.declared.program.Program.{Program}
use Rattle.bloom_forms.specs.Step.{Sets}
use Rattle.bloom_eval.specs.declared.kind.ProgramKind.{ProgramKind}
use Rattle.messages.specs.declared.fault.EventFault.{EventFault}
use Rattle.messages.specs.declared.fault.EventFault.TheVariants as event_faults
use Rattle.inbox.specs.Events.{Step}
use Rattle.inbox.specs.Executions.{Execution, first_execution}
use Rattle.report_lines.specs.declared.refusal.Refusal.TheVariants as refusal
use Rattle.report_lines.specs.declared.refusal.EventKind.TheVariants as event_kinds
use Rattle.sched_net.specs.Bench.{fault_of_opening}
use Rattle.sched_net.specs.Net.{Stands, execution_in}
use Rattle.sched_net.specs.declared.books.Books.{Books}
use Rattle.sched_net.specs.Steps.{Applied, Applies, after_lines, steps_in}
use Rattle.sched_net.specs.declared.running.StepRefusal.{StepRefusal}
use Rattle.sched_net.specs.declared.step.Step.{Step as NamedStep}
use Rattle.sched_net.proofs.FirstLemmas.{applied_first}
use Rattle.sched_net.proofs.TablesLemmas.{tables_are_last}
use Rattle.topo_forms.specs.Data.{Data}
use Rattle.topo_forms.specs.View.{View}
use Rattle.command_checks.specs.FileChecks.{line_of}
use Rattle.command_checks.specs.Ends.{Source, files_states}
use Rattle.command_checks.specs.Ran.{Gives, IsStopAt, answer_of}
use Rattle.command_checks.specs.Script.{Bytes, Script, ◌>>=◌}
use Rattle.command_checks.specs.Script.Script.{gives}
use Rattle.command_checks.specs.declared.reply.Reply.{Reply}
use Rattle.command_checks.specs.declared.stop.Stop.{Stop}
use Rattle.command_checks.proofs.RefusedLemmas.{memory_gives, refused_gives}
use Rattle.command_checks.proofs.ScriptLemmas.{came_checked, gives_ran, memory_stops, stop_then}
use Rattle.blazes_commands.specs.Runs.Bench.{BenchStates, bench_states, HasInstances, HasSameKinds}
use Rattle.blazes_commands.specs.Runs.Checks as check
use Rattle.blazes_commands.specs.Runs.Code.Ran.{IsOutcomeOf}
use Rattle.blazes_commands.specs.Runs.Replies.{RepliesWith}
use Rattle.blazes_commands.specs.Runs.Runs.{RunWork, SaysRun, run_work, running_by}
use Rattle.blazes_commands.proofs.Runs.BenchLemmas.{has_instances, same_kinds}
use Rattle.blazes_commands.proofs.Runs.OpeningLemmas.{opened_then}
use Rattle.blazes_commands.proofs.Runs.RepliesLemmas.{followed}

-- ---- what became of a net, beside what the check of its steps tells

-- the net stands for some steps, and the check gives their execution
pub record HasReached (v : View) (given : Data) (loaded : List (Option Program)) (tables : List Sets) (b : Books) (told : Result Execution Bytes) : Type 0 where
  pub steps : List Step
  pub stands : Stands v given steps loaded tables b
  pub tells : told ≡ Ok (execution_in stands.books)

-- so it is where all was applied; else the check refuses the line that was refused, unless memory ran out
abbrev pub IsAppliedAs : View → Data → (loaded : List (Option Program)) → (tables : List Sets) → Books → (told : Result Execution Bytes) → Result (Unit {0}) StepRefusal → Type 0
IsAppliedAs v given loaded tables b told (Ok done) = HasReached v given loaded tables b told
IsAppliedAs v given loaded tables b told (Err refused) = refused.fault ≢ event_faults.NoMemory → told ≡ Err (line_of (check.event_refusal refused.line refused.fault))

module _ {X : Type 0} (step : X → NamedStep) (v w : View) (given : Data) (lines : List (ℕ × X)) (loaded : List (Option Program)) (tables next : List Sets) (old new : Books) (applied : Result (Unit {0}) StepRefusal) (same : w ≡ v)
    (stands : Stands v given [] loaded tables old) (applies : Applies step w loaded tables next old new lines applied) where
  -- so it is after the steps of lines
  pub lines_applied : IsAppliedAs v given loaded next new (check.executed (after_lines step v given lines first_execution)) applied
  lines_applied = from (after_lines step v given lines first_execution) applied (applied_first step v w given lines loaded tables next old new applied same stands applies)
    where
      from : (after : Result Execution StepRefusal) (applied : Result (Unit {0}) StepRefusal) → Applied step v given [] loaded next new lines after applied → IsAppliedAs v given loaded next new (check.executed after) applied
      from after (Ok done) reaches = record { steps = [] ++ steps_in step v lines; stands = reaches.stands; tells = ap check.executed reaches.reached }
      from after (Err refused) stops = λ some. ap check.executed (stops.0 some)

-- ---- the command

-- the stop at a step that is refused
pub event_gives : (told : Result Execution Bytes) (line : ℕ) (fault : EventFault) (stop : Stop) → (fault ≢ event_faults.NoMemory → told ≡ Err (line_of (check.event_refusal line fault))) → IsStopAt (check.event_refusal line fault) stop
    → Gives (λ (x : Execution). x) (Err stop) told
event_gives told line event_faults.NoInstance stop is said = refused_gives (λ (x : Execution). x) told (refusal.Event line event_kinds.NoInstance) stop (is (λ bad. cc)) said
event_gives told line event_faults.NoMessage stop is said = refused_gives (λ (x : Execution). x) told (refusal.Event line event_kinds.NoMessage) stop (is (λ bad. cc)) said
event_gives told line event_faults.NothingToTake stop is said = refused_gives (λ (x : Execution). x) told (refusal.Event line event_kinds.NothingToTake) stop (is (λ bad. cc)) said
event_gives told line event_faults.TooManyRows stop is said = refused_gives (λ (x : Execution). x) told (refusal.Event line event_kinds.TooManyRows) stop (is (λ bad. cc)) said
event_gives told line event_faults.TooManyMessages stop is said = refused_gives (λ (x : Execution). x) told (refusal.Event line event_kinds.TooManyMessages) stop (is (λ bad. cc)) said
event_gives told line event_faults.NoMemory stop is said = memory_gives (λ (x : Execution). x) told stop said

module _ (v : View) (given : Data) (told : Result Execution Bytes) (bench : BenchStates) (loaded : List (Option Program)) (tables : List Sets) (b : Books) (s : Source) where
  abbrev happening : Script RunWork
  happening = check.checked told >>= λ x. gives (run_work v given x)

  -- what becomes of the steps
  happening_replies : (applied : Result (Unit {0}) StepRefusal) (outcome : Result Reply Stop) → IsOutcomeOf v b applied outcome → IsAppliedAs v given loaded tables b told applied
      → ((r : HasReached v given loaded tables b told) → HasInstances v (execution_in r.stands.books) bench)
      → RepliesWith SaysRun (files_states s s) bench outcome happening
  happening_replies (Ok done) (Ok reply) said reached instances =
      let x = execution_in reached.stands.books in
      followed SaysRun s s bench (check.checked told) (run_work v given) x (answer_of reply) (came_checked s told x reached.tells)
      (record { contents = said given reached.steps reached.stands.books; instances = instances reached })
  happening_replies (Ok done) (Err stop) said reached instances = memory_stops (files_states s s) happening stop said
  happening_replies (Err refused) (Ok reply) said refuses instances = absurd said
  happening_replies (Err refused) (Err stop) said refuses instances =
      stop_then (files_states s s) stop (check.checked told) (λ x. gives (run_work v given x))
      (gives_ran (λ (x : Execution). x) s (Err stop) told (event_gives told refused.line refused.fault stop refuses said))

  -- the net is opened, and then they happen
  pub net_replies : (applied : Result (Unit {0}) StepRefusal) (outcome : Result Reply Stop) → check.opened v (fault_of_opening v (λ kind. kind) bench.kinds) ≡ Ok tt → IsAppliedAs v given loaded tables b told applied
      → IsOutcomeOf v b applied outcome → ((r : HasReached v given loaded tables b told) → HasInstances v (execution_in r.stands.books) bench)
      → RepliesWith SaysRun (files_states s s) bench outcome (running_by (check.checked told) bench.kinds v given)
  net_replies applied outcome opens is said instances = opened_then SaysRun v bench happening outcome s opens (happening_replies applied outcome said is instances)

-- ---- the shells of a bench

module _ {X : Type 0} (v : View) (given : Data) (told : Result Execution Bytes) (kind : X → ProgramKind) (loaded : X → Option Program) (kept : X → Sets) (before : List X) where
  -- the bench when these shells are on it
  abbrev states : List X → BenchStates
  states all = bench_states (map kind before) (map kind all) (map loaded all) (map kept all)

  module _ (others opened shells all : List X) (put : all ≡ others ++ shells) where
    -- the net is opened with shells of the bench, all is applied or not, and the shells go back
    pub bench_replies : (b : Books) (applied : Result (Unit {0}) StepRefusal) (outcome : Result Reply Stop)
        → check.opened v (fault_of_opening v (λ k. k) (map kind before)) ≡ Ok tt → map loaded shells ≡ map loaded opened → IsAppliedAs v given (map loaded opened) (map kept shells) b told applied
        → IsOutcomeOf v b applied outcome → (s : Source) → RepliesWith SaysRun (files_states s s) (states all) outcome (running_by (check.checked told) (map kind before) v given)
    bench_replies b applied outcome opens programs is said s =
        net_replies v given told (states all) (map loaded opened) (map kept shells) b s applied outcome opens is said
        (λ r. has_instances v (execution_in r.stands.books) (map kind before) (map kind all) loaded kept others shells all put (programs ∙ r.stands.programs)
        (tables_are_last v given r.steps (map loaded opened) (map kept shells) b r.stands))

    -- and no shell is lost
    pub bench_keeps : IsPermutation (map kind before) (map kind others ++ map kind opened) → map kind shells ≡ map kind opened → HasSameKinds (states all)
    bench_keeps taken same = same_kinds kind (map kind before) others opened shells all taken same put
