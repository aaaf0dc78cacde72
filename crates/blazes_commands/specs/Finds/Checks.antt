-- The checks of a second schedule, and of a record that is looked for.
use Rattle.std.specs.Prelude.{ℕ, nat_lt, List, length, slice_get, Option, None, Some, Result, Ok, Err, if◌then◌else◌}
use Rattle.std.specs.Option.{option_and_then}
use Rattle.blz_value.specs.Record.{Row}
use Rattle.topo_forms.specs.Data.{Data}
use Rattle.topo_forms.specs.Messages.{row_in}
use Rattle.topo_forms.specs.View.{View, find_stream, stream_replicas}
use Rattle.inbox.specs.Executions.{Execution, emitted_list, first_execution}
use Rattle.inbox.specs.Wiring.{wiring_of}
use Rattle.sched_text.specs.Reading.{bad_line, entries_of, event_reading}
use Rattle.sched_net.specs.ScheduleLines.{Line}
use Rattle.sched_net.specs.Steps.{after_lines}
use Rattle.sched_net.specs.declared.running.StepRefusal.{StepRefusal}
use Rattle.sched_net.specs.declared.step.Step.TheVariants as named
use Rattle.messages.specs.declared.fault.EventFault.{EventFault}
use Rattle.messages.specs.declared.fault.EventFault.TheVariants as event_faults
use Rattle.why_trace.specs.Trim.{Wanted}
use Rattle.report_lines.specs.declared.refusal.Refusal.{Refusal}
use Rattle.report_lines.specs.declared.refusal.Refusal.TheVariants as refusal
use Rattle.report_lines.specs.declared.refusal.EventKind.TheVariants as event_kinds
use Rattle.report_lines.specs.declared.refusal.WhyKind.TheVariants as why_kinds
use Rattle.report_lines.specs.Refusals.{refusal_line}
use Rattle.blazes_words.specs.Words.{WhyWords}
use Rattle.command_checks.specs.FileChecks.{file, line_of, schedule_limit}
use Rattle.command_checks.specs.Script.{Bytes, Script, ◌>>=◌}
pub use Rattle.command_checks.specs.FileChecks.{checked, schedule_file}
pub use Rattle.command_checks.specs.Checks.{valid_topology, data_file}
use Rattle.blazes_commands.specs.Runs.Checks.{entries_in}
pub use Rattle.blazes_commands.specs.Runs.Checks.{opened, opening, executed, execution}

-- ---- the second of two schedules

-- what is read of its text
abbrev pub second_in : Bytes → Result (List Line) Bytes
second_in text = entries_in (λ line. refusal.SecondScheduleText line) (bad_line event_reading text) (entries_of event_reading text)

-- its file: read, length, text
abbrev pub second_file : Bytes → Script (List Line)
second_file name = do
  bytes ← file schedule_limit name
  checked (second_in bytes)

-- the refusal of the event in a line of it
abbrev pub second_event_refusal : (line : ℕ) → EventFault → Option Refusal
second_event_refusal line event_faults.NoInstance = Some (refusal.SecondEvent line event_kinds.NoInstance)
second_event_refusal line event_faults.NoMessage = Some (refusal.SecondEvent line event_kinds.NoMessage)
second_event_refusal line event_faults.NothingToTake = Some (refusal.SecondEvent line event_kinds.NothingToTake)
second_event_refusal line event_faults.TooManyRows = Some (refusal.SecondEvent line event_kinds.TooManyRows)
second_event_refusal line event_faults.TooManyMessages = Some (refusal.SecondEvent line event_kinds.TooManyMessages)
second_event_refusal line event_faults.NoMemory = None

abbrev pub second_executed : Result Execution StepRefusal → Result Execution Bytes
second_executed (Ok x) = Ok x
second_executed (Err refused) = Err (line_of (second_event_refusal refused.line refused.fault))

-- its events in order, up to the first that is refused
abbrev pub second_execution : View → Data → List Line → Script Execution
second_execution v given lines = checked (second_executed (after_lines named.Event v given lines first_execution))

-- ---- a record that is looked for

-- the most events of a schedule in which one is looked for
abbrev pub most_events : ℕ
most_events = 256

abbrev pub counted : (count : ℕ) → Result (Unit {0}) Bytes
counted count = if nat_lt most_events count then Err (refusal_line (refusal.Why why_kinds.TooManyEvents)) else Ok tt

-- a schedule file that has no more: read, length, text, count
abbrev pub few_events_file : Bytes → Script (List Line)
few_events_file name = do
  lines ← schedule_file name
  few ← checked (counted (length lines))
  Script.gives lines

-- the stream that was found, where this replica sends it
abbrev pub sender_in : View → (replica : ℕ) → (found : Option ℕ) → Result ℕ Bytes
sender_in v replica None = Err (refusal_line (refusal.Why why_kinds.NoStream))
sender_in v replica (Some stream) = if nat_lt replica (stream_replicas v stream) then Ok stream else Err (refusal_line (refusal.Why why_kinds.NoStream))

-- the record at a place of an emitted list; none past its end, or where a seal stands
abbrev pub record_at : View → Data → Execution → (stream replica index : ℕ) → Option Row
record_at v given x s r n = option_and_then row_in (slice_get (emitted_list (wiring_of v) given x s r) n)

-- the record, where there is one
abbrev pub record_in : Option Row → Result Row Bytes
record_in None = Err (refusal_line (refusal.Why why_kinds.NoRecord))
record_in (Some row) = Ok row

-- the record that the words name: a stream has this name, the replica sends it, and a record stands at the index
abbrev pub wanted : View → Data → Execution → WhyWords → Script Wanted
wanted v given x words = do
  stream ← checked (sender_in v words.replica (find_stream v words.stream))
  row ← checked (record_in (record_at v given x stream words.replica words.index))
  Script.gives (record { stream = stream; replica = words.replica; row = row })
