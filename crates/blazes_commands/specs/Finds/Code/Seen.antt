-- What is taken of an execution that is compared with another.
use Rattle.std.specs.Prelude.{◌≡◌, ◌<◌, ◌++◌, List, length, Option, IfSome, Result, Ok, Err}
use Rattle.bloom_eval.specs.declared.kind.ProgramKind.{ProgramKind}
use Rattle.topo_forms.specs.Data.{Data}
use Rattle.topo_forms.specs.View.{View}
use Rattle.inbox.specs.Executions.{Execution, first_execution}
use Rattle.sched_net.specs.declared.books.Books.{Books}
use Rattle.sched_net.specs.ScheduleLines.{Line}
use Rattle.sched_net.specs.Steps.{after_lines}
use Rattle.sched_net.specs.Reading.{IsRead, is_complete}
use Rattle.sched_net.specs.declared.running.StepRefusal.{StepRefusal}
use Rattle.sched_net.specs.declared.step.Step.TheVariants as named
use Rattle.witness_check.specs.Difference.{difference, snapshot}
use Rattle.witness_check.specs.declared.difference.Difference.{Difference}
use Rattle.witness_check.specs.declared.difference.Which.{Which}
use Rattle.witness_check.specs.declared.difference.Which.TheVariants.{First, Second}
use Rattle.report_lines.specs.declared.refusal.Refusal.{Refusal}
use Rattle.blazes_words.specs.Words.{WitnessFiles}
use Rattle.blazes_commands.specs.Runs.Checks.{event_refusal}
use Rattle.command_checks.specs.Ends.{Source, files_states, Came}
use Rattle.command_checks.specs.Ran.{IsStopAt, Stopped}
use Rattle.command_checks.specs.Script.{Bytes, Script, Ending, ◌>>=◌}
use Rattle.command_checks.specs.declared.stop.Stop.{Stop}
use Rattle.command_checks.specs.declared.stop.Stop.TheVariants.{NoMemory}
use Rattle.blazes_commands.specs.Finds.Checks as check
use Rattle.blazes_commands.specs.Finds.Finds.{Witnessed, comparing}
use Rattle.blazes_commands.specs.Finds.WitnessText.{difference_line, end_line}
use Rattle.blazes_commands.specs.declared.find_calls.seeing.Seen.{Seen}

-- its contents, and whether it is complete
abbrev pub seen_of : View → Data → Execution → Seen
seen_of v given x = record { contents = snapshot v given x; complete = is_complete v given x }

-- the refusal of an event of one of two schedules
abbrev pub refusal_of : Which → StepRefusal → Option Refusal
refusal_of First refused = event_refusal refused.line refused.fault
refusal_of Second refused = check.second_event_refusal refused.line refused.fault

-- what the events of one of two schedules make, or the line of the first that is refused
abbrev pub executed_of : Which → Result Execution StepRefusal → Result Execution Bytes
executed_of First after = check.executed after
executed_of Second after = check.second_executed after

-- a net is opened, and the events of one of two schedules happen
abbrev pub run_in : Which → List ProgramKind → View → Data → List Line → Script Execution
run_in which kinds v given lines = do
  opened ← check.opening v kinds
  check.checked (executed_of which (after_lines named.Event v given lines first_execution))

-- this is taken of the execution at the end of a script
pub record IsSeen (v : View) (given : Data) (run : Script Execution) (seen : Seen) : Type 0 where
  pub execution : Execution
  pub came : (files : Source) → Came (files_states files files) run (Ending.gave execution)
  pub says : seen ≡ seen_of v given execution

-- so it is, or the script stops so
abbrev pub Sees : View → Data → Script Execution → Result Seen Stop → Type 0
Sees v given run (Ok seen) = IsSeen v given run seen
Sees v given run (Err stop) = (files : Source) → Stopped (files_states files files) stop run

-- what is taken of a net that has these books, to which the events of one of two schedules were so applied
abbrev pub IsSeenOf : Which → View → Books → Result (Unit {0}) StepRefusal → Result Seen Stop → Type 0
IsSeenOf which v b (Ok x) (Ok seen) = IsRead v b (seen_of v) seen
IsSeenOf which v b (Ok x) (Err stop) = stop ≡ NoMemory
IsSeenOf which v b (Err refused) (Ok seen) = ⊥
IsSeenOf which v b (Err refused) (Err stop) = IsStopAt (refusal_of which refused) stop

-- ---- the text of two of them

-- the stream of a difference is one of the topology
abbrev pub IsWithin : View → Option Difference → Type 0
IsWithin v difference = IfSome difference (λ d. d.stream < length v.streams)

-- the text of what was taken of two executions
abbrev pub seen_text : View → (first second : Seen) → Bytes
seen_text v first second = difference_line v (difference first.contents second.contents) ++ end_line First first.complete ++ end_line Second second.complete

-- what follows in `witness` on a topology and its data
abbrev pub comparing_files : List ProgramKind → WitnessFiles → View → Data → Script Witnessed
comparing_files kinds files v given = do
  first ← check.schedule_file files.first
  second ← check.second_file files.second
  comparing kinds v given first second
