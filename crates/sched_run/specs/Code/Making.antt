-- A schedule that is being made: what the net went through, and what an event and a turn make of it.
use Rattle.std.specs.Prelude.{◌≡◌, ◌≤◌, ◌<◌, ◌++◌, ◌∷◌, ℕ, suc, Option, None, Some, Result, Ok, Err, List, [], length, map}
use Rattle.blz_value.specs.Members.{Has}
use Rattle.bloom_forms.specs.declared.program.Program.{Program}
use Rattle.bloom_forms.specs.Step.{Sets}
use Rattle.topo_forms.specs.Data.{Data}
use Rattle.topo_forms.specs.View.{View}
use Rattle.inbox.specs.Events.{Event, event}
use Rattle.inbox.specs.Executions.{Execution, after_event}
use Rattle.inbox.specs.Growth.{Continues}
use Rattle.inbox.specs.Wiring.{Wiring, wiring_of}
use Rattle.inbox.specs.Limits.{Limit, too_many_rows, too_many_messages, limit_of_event}
use Rattle.sched_net.specs.Net.{Stands, execution_in}
use Rattle.sched_net.specs.declared.books.Books.{Books}
use Rattle.messages.specs.declared.fault.EventFault.{EventFault}
use Rattle.messages.specs.declared.fault.EventFault.TheVariants as event_fault
use Rattle.sched_run.specs.Made.{event_limit, after_turns, limit_at_place, made_of, open_works, execution_after, AnswersSo}
use Rattle.sched_run.specs.Naming.{CanBeWritten}
use Rattle.sched_run.specs.Code.Watch.{IsWatched}
use Rattle.sched_run.specs.Code.Works.{AreWorksOf, AreShown}
use Rattle.sched_net.specs.declared.fault.MakeFault.{MakeFault}
use Rattle.sched_net.specs.declared.fault.MakeFault.TheVariants.{TooManyEvents, TooManyRows, TooManyMessages, NoMemory}
use Rattle.sched_run.specs.declared.making.Making.{Making}

-- ---- faults

-- a fault of an event that ends the net: none of a legal event is another
abbrev pub EndsNet : EventFault → Type 0
EndsNet event_fault.NoInstance = ⊥
EndsNet event_fault.NoMessage = ⊥
EndsNet event_fault.NothingToTake = ⊥
EndsNet event_fault.TooManyRows = Unit {0}
EndsNet event_fault.TooManyMessages = Unit {0}
EndsNet event_fault.NoMemory = Unit {0}

-- the fault of the event with this number
abbrev pub fault_with : EventFault → (number : ℕ) → MakeFault
fault_with event_fault.NoInstance number = NoMemory
fault_with event_fault.NoMessage number = NoMemory
fault_with event_fault.NothingToTake number = NoMemory
fault_with event_fault.TooManyRows number = TooManyRows number
fault_with event_fault.TooManyMessages number = TooManyMessages number
fault_with event_fault.NoMemory number = NoMemory

-- ---- the events so far

-- no event of a list meets a limit
abbrev pub MeetNone : Wiring → Data → List Event → Type 0
MeetNone w given events = (place : ℕ) → place < length events → limit_at_place w given events place ≡ None

-- the net stands for them, and none met a limit
pub record HasRun (v : View) (given : Data) (loaded : List (Option Program)) (tables : List Sets) (b : Books) (events : List Event) : Type 0 where
  pub stands : Stands v given (map event events) loaded tables b
  pub unmet : MeetNone (wiring_of v) given events

-- so it is of some data
pub record Goes (v : View) (loaded : List (Option Program)) (tables : List Sets) (b : Books) (events : List Event) : Type 0 where
  pub given : Data
  pub run : HasRun v given loaded tables b events

-- and an event is legal then
pub record GoesOn (v : View) (loaded : List (Option Program)) (tables : List Sets) (b : Books) (events : List Event) (e : Event) : Type 0 where
  pub given : Data
  pub run : HasRun v given loaded tables b events
  pub next : Execution
  pub legal : after_event (wiring_of v) given e (execution_in run.stands.books) ≡ Ok next

-- or is an open work
pub record IsDue (v : View) (loaded : List (Option Program)) (tables : List Sets) (b : Books) (events : List Event) (e : Event) : Type 0 where
  pub given : Data
  pub run : HasRun v given loaded tables b events
  pub open_now : Has e (open_works (wiring_of v) given (execution_in run.stands.books))

-- ---- events that aren't done

-- the event after these meets a limit, and isn't one too many
pub record MeetsLimit (w : Wiring) (given : Data) (before : List Event) (e : Event) (limit : Limit) : Type 0 where
  pub few : length before < event_limit
  pub meets : limit_of_event w given e (execution_after w given before) ≡ Some limit

-- why the event after these isn't done
abbrev pub FailsAt : Wiring → Data → (before : List Event) → Event → MakeFault → Type 0
FailsAt w given before e NoMemory = Unit {0}
FailsAt w given before e TooManyEvents = length before ≡ event_limit
FailsAt w given before e (TooManyRows number) = (number ≡ suc (length before)) × MeetsLimit w given before e too_many_rows
FailsAt w given before e (TooManyMessages number) = (number ≡ suc (length before)) × MeetsLimit w given before e too_many_messages

-- some event of a list isn't done, and none before it met a limit
pub record FailsIn (w : Wiring) (given : Data) (events : List Event) (fault : MakeFault) : Type 0 where
  pub before : List Event
  pub due : Event
  pub begins : Continues (before ++ due ∷ []) events
  pub unmet : MeetNone w given before
  pub fails : FailsAt w given before due fault

-- more events are done, and then it is these, or one isn't
abbrev pub AppliedSo : View → Data → (loaded : List (Option Program)) → (next : List Sets) → (new : Books) → (events after : List Event) → (more : List Event) → Result (Unit {0}) MakeFault → Type 0
AppliedSo v given loaded next new events after more (Ok x) = HasRun v given loaded next new after
AppliedSo v given loaded next new events after more (Err fault) = FailsIn (wiring_of v) given (events ++ more) fault

-- so it is of whatever data the net stood for
abbrev pub AppliesEvents : View → (loaded : List (Option Program)) → (tables next : List Sets) → (old new : Books) → (events after : List Event) → (more : List Event) → Result (Unit {0}) MakeFault → Type 0
AppliesEvents v loaded tables next old new events after more result = (given : Data) → HasRun v given loaded tables old events → AppliedSo v given loaded next new events after more result

-- ---- turns

-- what is open is shown, and the events can be written
pub record IsReady (v : View) (b : Books) (m : Making) : Type 0 where
  pub works : AreWorksOf v m.watch.works
  pub watched : IsWatched v m.watch
  pub shown : AreShown v b m.watch.works
  pub written : CanBeWritten v m.made

-- some turns from a seed were made, each of one event at least
pub record HasTurned (v : View) (given : Data) (seed : ℕ) (loaded : List (Option Program)) (tables : List Sets) (b : Books) (m : Making) : Type 0 where
  pub run : HasRun v given loaded tables b m.made
  pub turns : ℕ
  pub course : after_turns (wiring_of v) given seed turns ≡ record { state = m.draws; events = m.made }
  pub few : turns ≤ length m.made

-- one turn more, or this fault is the answer to the seed
abbrev pub TurnedSo : View → Data → (seed : ℕ) → (loaded : List (Option Program)) → (next : List Sets) → (new : Books) → (after : Making) → Result (Unit {0}) MakeFault → Type 0
TurnedSo v given seed loaded next new after (Ok x) = HasTurned v given seed loaded next new after
TurnedSo v given seed loaded next new after (Err fault) = AnswersSo (wiring_of v) given (made_of (wiring_of v) given seed) (Err fault)

-- so it is of whatever data and seed
abbrev pub Turns : View → (loaded : List (Option Program)) → (tables next : List Sets) → (old new : Books) → (before after : Making) → Result (Unit {0}) MakeFault → Type 0
Turns v loaded tables next old new before after result = (given : Data) (seed : ℕ) → HasTurned v given seed loaded tables old before → TurnedSo v given seed loaded next new after result

-- ---- the whole

-- the net stands for the events that are answered, of whatever data it stood for at first
abbrev pub StandsMade : View → (loaded : List (Option Program)) → (tables next : List Sets) → (old new : Books) → List Event → Type 0
StandsMade v loaded tables next old new events = (given : Data) → Stands v given [] loaded tables old → Stands v given (map event events) loaded next new
