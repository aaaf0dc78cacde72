-- The checks of a file and of a schedule, each a script of its own that knows no other.
use Rattle.std.specs.Prelude.{ℕ, nat_lt, List, [], length, Option, Some, None, Result, Ok, Err, if◌then◌else◌}
use Rattle.sched_text.specs.Reading.{bad_line, entries_of, event_reading}
use Rattle.sched_text.specs.declared.event.Event.{Event}
use Rattle.report_lines.specs.declared.refusal.Refusal.{Refusal}
use Rattle.report_lines.specs.declared.refusal.Refusal.TheVariants as refusal
use Rattle.report_lines.specs.Refusals.{refusal_line}
use Rattle.command_checks.specs.Script.{Bytes, Script, ◌>>=◌}

-- what a check gives, or its line
abbrev pub checked : {A : Type 0} → Result A Bytes → Script A
checked (Ok x) = Script.gives x
checked (Err line) = Script.refuses line

-- the bytes of a file that has at most so many
abbrev pub file : ℕ → Bytes → Script Bytes
file most name = Script.reads name (λ bytes. if nat_lt most (length bytes) then Script.refuses (refusal_line (refusal.TooLong name)) else Script.gives bytes)

-- ---- refusals

-- the line of a refusal; want of memory is none, and no check gives it
abbrev pub line_of : Option Refusal → Bytes
line_of None = []
line_of (Some refused) = refusal_line refused

-- ---- a schedule

-- the events of a text, each with its line, unless a line is none that a schedule may have
abbrev pub schedule_in : (bad : Option ℕ) → List (ℕ × Event) → Result (List (ℕ × Event)) Bytes
schedule_in None lines = Ok lines
schedule_in (Some line) lines = Err (refusal_line (refusal.ScheduleText line))

-- the most bytes of a schedule file: 64 MiB
abbrev pub schedule_limit : ℕ
schedule_limit = 67108864

-- a schedule file: read, length, text
abbrev pub schedule_file : Bytes → Script (List (ℕ × Event))
schedule_file name = do
  bytes ← file schedule_limit name
  checked (schedule_in (bad_line event_reading bytes) (entries_of event_reading bytes))
