-- What is made of a net that made no step yet, from a seed.
use Rattle.std.specs.Prelude.{◌≡◌, ℕ, true, Option, Result, Ok, Err, List, [], map, length}
use Rattle.std.specs.List.{range_with_len}
use Rattle.bloom_forms.specs.declared.program.Program.{Program}
use Rattle.bloom_forms.specs.Step.{Sets}
use Rattle.sched_text.specs.Reading.{ReadsAs, event_reading}
use Rattle.sched_text.specs.Text.{schedule_text}
use Rattle.topo_forms.specs.Data.{Data}
use Rattle.topo_forms.specs.View.{View}
use Rattle.inbox.specs.Events.{Event, event}
use Rattle.inbox.specs.Wiring.{wiring_of}
use Rattle.sched_net.specs.Net.{Stands}
use Rattle.sched_net.specs.declared.books.Books.{Books}
use Rattle.sched_net.specs.ScheduleLines.{Line, steps_of, events_of}
use Rattle.sched_run.specs.Made.{made_of, AnswersSo}
use Rattle.sched_net.specs.declared.fault.MakeFault.{MakeFault}

-- the net stands for no step: no event was applied to it, and nothing was forgotten
pub record RunsFirst (v : View) (loaded : List (Option Program)) (tables : List Sets) (b : Books) : Type 0 where
  pub given : Data
  pub stands : Stands v given [] loaded tables b

-- ---- events by numbers

-- the events that are made, or why there are none, are those of whatever data the net stood for
abbrev pub AnswersNumbered : View → (loaded : List (Option Program)) → (tables : List Sets) → (old : Books) → (seed : ℕ) → Result (List Event) MakeFault → Type 0
AnswersNumbered v loaded tables old seed result = (given : Data) → Stands v given [] loaded tables old → AnswersSo (wiring_of v) given (made_of (wiring_of v) given seed) result

-- the net stands for them, and a fault ends it
abbrev pub HasMadeNumbered : View → Data → (loaded : List (Option Program)) → (tables : List Sets) → (new : Books) → Result (List Event) MakeFault → Type 0
HasMadeNumbered v given loaded tables new (Ok events) = Stands v given (map event events) loaded tables new
HasMadeNumbered v given loaded tables new (Err fault) = new.ended ≡ true

abbrev pub LeavesNumbered : View → (loaded : List (Option Program)) → (tables next : List Sets) → (old new : Books) → Result (List Event) MakeFault → Type 0
LeavesNumbered v loaded tables next old new result = (given : Data) → Stands v given [] loaded tables old → HasMadeNumbered v given loaded next new result

-- ---- a schedule

-- those of a schedule that is answered
abbrev pub events_in : View → Result (List Line) MakeFault → Result (List Event) MakeFault
events_in v (Ok lines) = Ok (events_of v lines)
events_in v (Err fault) = Err fault

-- the schedule, or why there is none, is that of whatever data the net stood for
abbrev pub AnswersMade : View → (loaded : List (Option Program)) → (tables : List Sets) → (old : Books) → (seed : ℕ) → Result (List Line) MakeFault → Type 0
AnswersMade v loaded tables old seed result = (given : Data) → Stands v given [] loaded tables old → AnswersSo (wiring_of v) given (made_of (wiring_of v) given seed) (events_in v result)

-- the net stands for the events of the schedule, and a fault ends it
abbrev pub HasMade : View → Data → (loaded : List (Option Program)) → (tables : List Sets) → (new : Books) → Result (List Line) MakeFault → Type 0
HasMade v given loaded tables new (Ok lines) = Stands v given (steps_of v lines) loaded tables new
HasMade v given loaded tables new (Err fault) = new.ended ≡ true

abbrev pub LeavesMade : View → (loaded : List (Option Program)) → (tables next : List Sets) → (old new : Books) → Result (List Line) MakeFault → Type 0
LeavesMade v loaded tables next old new result = (given : Data) → Stands v given [] loaded tables old → HasMade v given loaded next new result

-- the lines are numbered from 1
abbrev pub CountFromOne : List Line → Type 0
CountFromOne lines = map (λ line. line.0) lines ≡ range_with_len 1 (length lines)

-- a text is that of a schedule with these events, and reads as it
pub record IsTextOf (v : View) (events : List Event) (text : List ℕ) : Type 0 where
  pub lines : List Line
  pub is : text ≡ schedule_text lines
  pub reads : ReadsAs event_reading text lines
  pub are : events_of v lines ≡ events
