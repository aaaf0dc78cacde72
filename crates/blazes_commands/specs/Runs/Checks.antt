-- The checks of a net and of what happens in it, each a script of its own that knows no other.
use Rattle.std.specs.Prelude.{ℕ, List, Option, Some, None, Result, Ok, Err}
use Rattle.bloom_eval.specs.declared.kind.ProgramKind.{ProgramKind}
use Rattle.messages.specs.declared.fault.EventFault.{EventFault}
use Rattle.messages.specs.declared.fault.EventFault.TheVariants as event_faults
use Rattle.inbox.specs.Executions.{Execution, first_execution}
use Rattle.sched_net.specs.StepReading.{step_reading}
use Rattle.sched_net.specs.Steps.{StepLine, after_lines, itself}
use Rattle.report_lines.specs.declared.refusal.Refusal.{Refusal}
use Rattle.report_lines.specs.declared.refusal.Refusal.TheVariants as refusal
use Rattle.report_lines.specs.declared.refusal.EventKind.TheVariants as event_kinds
use Rattle.report_lines.specs.Refusals.{refusal_line}
use Rattle.sched_net.specs.Bench.{fault_of_opening}
use Rattle.sched_net.specs.declared.fault.OpenFault.{OpenFault}
use Rattle.sched_net.specs.declared.fault.OpenFault.TheVariants as open_faults
use Rattle.sched_net.specs.ScheduleLines.{Line}
use Rattle.sched_net.specs.declared.running.StepRefusal.{StepRefusal}
use Rattle.sched_net.specs.declared.step.Step.{Step as NamedStep}
use Rattle.sched_net.specs.declared.step.Step.TheVariants.{Event}
use Rattle.sched_text.specs.Reading.{bad_line, entries_of}
use Rattle.topo_forms.specs.Data.{Data}
use Rattle.topo_forms.specs.View.{View, component_at}
use Rattle.command_checks.specs.FileChecks.{file, line_of, schedule_limit}
use Rattle.command_checks.specs.Script.{Bytes, Script, ◌>>=◌}
pub use Rattle.command_checks.specs.FileChecks.{checked, schedule_file}
pub use Rattle.command_checks.specs.Checks.{valid_topology, data_file}

-- ---- the steps of a file

-- the entries of a text, each with its line, or the refusal of a line that is none
abbrev pub entries_in : {X : Type 0} → (refused : ℕ → Refusal) → (bad : Option ℕ) → List (ℕ × X) → Result (List (ℕ × X)) Bytes
entries_in refused None entries = Ok entries
entries_in refused (Some line) entries = Err (refusal_line (refused line))

-- what is read of a text of steps
abbrev pub replay_in : Bytes → Result (List StepLine) Bytes
replay_in text = entries_in (λ line. refusal.ScheduleText line) (bad_line step_reading text) (entries_of step_reading text)

-- a file of a schedule whose lines may also be forgets: read, length, text
abbrev pub steps_file : Bytes → Script (List StepLine)
steps_file name = do
  bytes ← file schedule_limit name
  checked (replay_in bytes)

-- ---- the opening of a net

-- the refusal of an opening
abbrev pub opening_refusal : View → OpenFault → Option Refusal
opening_refusal v (open_faults.NoBody c) = Some (refusal.NoBody (component_at v c).name)
opening_refusal v (open_faults.NoShell c) = Some (refusal.NoShell (component_at v c).name)
opening_refusal v open_faults.NoMemory = None

abbrev pub opened : View → Option OpenFault → Result (Unit {0}) Bytes
opened v None = Ok tt
opened v (Some fault) = Err (line_of (opening_refusal v fault))

-- there is a body for each component, and on a bench with shells of these kinds a shell for each instance
abbrev pub opening : View → List ProgramKind → Script (Unit {0})
opening v kinds = checked (opened v (fault_of_opening v (λ kind. kind) kinds))

-- ---- events and steps

-- the refusal of the event or the step in a line
abbrev pub event_refusal : (line : ℕ) → EventFault → Option Refusal
event_refusal line event_faults.NoInstance = Some (refusal.Event line event_kinds.NoInstance)
event_refusal line event_faults.NoMessage = Some (refusal.Event line event_kinds.NoMessage)
event_refusal line event_faults.NothingToTake = Some (refusal.Event line event_kinds.NothingToTake)
event_refusal line event_faults.TooManyRows = Some (refusal.Event line event_kinds.TooManyRows)
event_refusal line event_faults.TooManyMessages = Some (refusal.Event line event_kinds.TooManyMessages)
event_refusal line event_faults.NoMemory = None

abbrev pub executed : Result Execution StepRefusal → Result Execution Bytes
executed (Ok x) = Ok x
executed (Err refused) = Err (line_of (event_refusal refused.line refused.fault))

-- the steps of lines in order, up to the first that is refused
abbrev pub happening : {X : Type 0} → (step : X → NamedStep) → View → Data → List (ℕ × X) → Script Execution
happening step v given lines = checked (executed (after_lines step v given lines first_execution))

-- so events
abbrev pub execution : View → Data → List Line → Script Execution
execution v given lines = happening Event v given lines

-- and steps
abbrev pub restarted : View → Data → List StepLine → Script Execution
restarted v given lines = happening itself v given lines
