-- A net keeps books beside its shells: emitted lists, logs, and of each instance what it heard or took; with them it stands for the steps that were made.
use Rattle.std.specs.Prelude.{◌≡◌, ◌<◌, ◌++◌, ◌∷◌, ℕ, IsSome, true, false, Option, Some, Result, Ok, Err, List, [], map, length, slice_get}
use Rattle.blz_value.specs.Members.{Has}
use Rattle.blz_value.specs.Record.{Row}
use Rattle.bloom_forms.specs.declared.program.Program.{Program}
use Rattle.bloom_forms.specs.Step.{Sets}
use Rattle.topo_forms.specs.Data.{Data, IsData}
use Rattle.topo_forms.specs.Messages.{Message}
use Rattle.topo_forms.specs.View.{View, program_of, replicas_of, is_order}
use Rattle.messages.specs.Messages.{Pair, all_pairs}
use Rattle.inbox.specs.Instances.{Instance}
use Rattle.inbox.specs.Wiring.{wiring_of, instance_for, feeds_for}
use Rattle.blz_pool.specs.Entries.{EntryId, entries_with_ids}
use Rattle.messages.specs.Log.{AreGiven}
use Rattle.inbox.specs.Inbox.{HasHeard, IsFrom, feeds_in}
use Rattle.inbox.specs.Standing.{Seat, Seats, StandsFor}
use Rattle.inbox.specs.Growth.{feed_numbered}
use Rattle.inbox.specs.declared.inbox.Inbox.{Inbox}
use Rattle.topo_forms.specs.Feeds.{Feed}
use Rattle.inbox.specs.Executions.{Execution, after_event}
use Rattle.inbox.specs.Events.{Step, Event, event}
use Rattle.sched_net.specs.Answers.{Answers}
use Rattle.messages.specs.declared.fault.EventFault.{EventFault}
use Rattle.messages.specs.declared.fault.EventFault.TheVariants.{NoInstance, NoMessage, NothingToTake, TooManyRows, TooManyMessages, NoMemory}
use Rattle.sched_net.specs.Bench.{instance_components}
use Rattle.inbox.specs.Limits.{limit_of_event}
use Rattle.messages.specs.Lists.{Listed, IsExact, read_lists, list_at}
use Rattle.inbox.specs.Outlets.{outlets_for}
use Rattle.inbox.specs.Places.{ArePlaces, instance_place, instance_count, list_place}
use Rattle.messages.specs.Known.{is_known}
use Rattle.sched_net.specs.Shown.{ShowsSeats}
use Rattle.sched_net.specs.declared.seated.Ear.{Ear}
use Rattle.sched_net.specs.declared.seated.Ear.TheVariants.{Hears, Takes}
use Rattle.sched_net.specs.declared.seated.Seated.{Seated}
use Rattle.sched_net.specs.declared.books.Books.{Books}

-- ---- books of one instance

-- the emitted list that comes on a feed
abbrev pub list_on : View → List (List Message) → Feed → List Message
list_on v lists feed = list_at lists (list_place v feed.stream feed.sender)

-- known are the indexes of exactly those messages that were heard on each feed
pub record KnowsHeard (v : View) (i : Instance) (lists : List (List Message)) (heard : List Pair) (known : List (List ℕ)) : Type 0 where
  pub sound : (feed index : ℕ) → is_known known feed index ≡ true → (message : Message) × (slice_get (list_on v lists (feed_numbered i feed)) index ≡ Some message) × Has (feed, message) heard
  pub whole : (feed index : ℕ) (message : Message) → feed < length i.feeds → slice_get (list_on v lists (feed_numbered i feed)) index ≡ Some message → Has (feed, message) heard → is_known known feed index ≡ true

-- what an instance of a component that isn't Order heard
pub record ShowsInbox (v : View) (l : Listed) (c r : ℕ) (seat : Seat) (ear : Inbox) (indexes : List (List ℕ)) : Type 0 where
  pub hears : is_order v c ≡ false
  pub heard : HasHeard (instance_for v c r) l.records seat.heard ear
  pub kept : IsFrom l.records ear
  pub feeds : feeds_in ear ≡ length (instance_for v c r).feeds
  pub known : KnowsHeard v (instance_for v c r) (read_lists l) (all_pairs seat.heard) indexes

-- what an instance heard, or how many entries it took
abbrev pub ShowsEar : View → Listed → (c r : ℕ) → Seat → Ear → Type 0
ShowsEar v l c r seat (Hears inbox known) = ShowsInbox v l c r seat inbox known
ShowsEar v l c r seat (Takes taken) = (is_order v c ≡ true) × (taken ≡ seat.taken)

-- the books of an instance show its seat
pub record ShowsSeat (v : View) (l : Listed) (c r : ℕ) (seat : Seat) (b : Seated) : Type 0 where
  pub outlets : b.outlets ≡ outlets_for v c r
  pub feeds : b.feeds ≡ feeds_for v c r
  pub ear : ShowsEar v l c r seat b.ear

-- ---- all books

-- the books of each instance show its seat
pub record ShowSeats (v : View) (l : Listed) (seats : Seats) (instances : List Seated) : Type 0 where
  pub count : length instances ≡ instance_count v
  pub each : (c r : ℕ) (b : Seated) → c < length v.components → r < replicas_of v c → slice_get instances (instance_place v c r) ≡ Some b → ShowsSeat v l c r (seats.seats c r) b

-- the logs are those of the components
pub record ShowLogs (v : View) (records : List Row) (seats : Seats) (logs : List (List EntryId)) : Type 0 where
  pub count : length logs ≡ length v.components
  pub each : (c : ℕ) → c < length v.components → entries_with_ids records (list_at logs c) ≡ seats.logs c
  pub given : (c : ℕ) → c < length v.components → AreGiven records (list_at logs c)

-- the books stand for steps over data that fit, where each component has a body: so the seats do for which they stand, with the tables that the shells have
pub record BooksStand (v : View) (given : Data) (steps : List Step) (b : Books) : Type 0 where
  pub fits : IsData v given
  pub bodies : (c : ℕ) → c < length v.components → IsSome (program_of v c)
  pub seats : Seats
  pub tables : List Sets
  pub stands : StandsFor (wiring_of v) given steps seats
  pub shows : ShowsSeats v given seats tables (read_lists b.lists)
  pub exact : IsExact b.lists
  pub places : ArePlaces v b.places
  pub instances : ShowSeats v b.lists seats b.seats.items
  pub logs : ShowLogs v b.lists.records seats b.logs.items
  pub runs : b.ended ≡ false

-- and the net does, whose shells have these programs and tables
pub record Stands (v : View) (given : Data) (steps : List Step) (loaded : List (Option Program)) (tables : List Sets) (b : Books) : Type 0 where
  pub books : BooksStand v given steps b
  pub tables_are : tables ≡ books.tables
  pub programs : loaded ≡ map (program_of v) (instance_components v)

-- the execution for which books stand
abbrev pub execution_in : {v : View} {given : Data} {steps : List Step} {b : Books} → BooksStand v given steps b → Execution
execution_in stand = stand.stands.execution

-- a net that isn't ended stands for some steps
pub record Runs (v : View) (loaded : List (Option Program)) (tables : List Sets) (b : Books) : Type 0 where
  pub given : Data
  pub steps : List Step
  pub stands : Stands v given steps loaded tables b

-- and so do its books
pub record BooksRun (v : View) (b : Books) : Type 0 where
  pub given : Data
  pub steps : List Step
  pub stand : BooksStand v given steps b

-- ---- what an event makes of a net

-- it is answered as the execution says, for whatever steps the net stood
abbrev pub EventAnswers : View → (loaded : List (Option Program)) → (tables : List Sets) → (old : Books) → Event → Result (Unit {0}) EventFault → Type 0
EventAnswers v loaded tables old e result = (given : Data) (steps : List Step) (stands : Stands v given steps loaded tables old)
    → Answers (after_event (wiring_of v) given e (execution_in stands.books)) (limit_of_event (wiring_of v) given e (execution_in stands.books)) result

-- an event that is done is one step more, a refused one changes nothing, and every other fault ends the net
abbrev pub Leaves : View → Data → List Step → (loaded : List (Option Program)) → (tables : List Sets) → (new : Books) → Step → Result (Unit {0}) EventFault → Type 0
Leaves v given steps loaded tables new step (Ok x) = Stands v given (steps ++ step ∷ []) loaded tables new
Leaves v given steps loaded tables new step (Err NoInstance) = Stands v given steps loaded tables new
Leaves v given steps loaded tables new step (Err NoMessage) = Stands v given steps loaded tables new
Leaves v given steps loaded tables new step (Err NothingToTake) = Stands v given steps loaded tables new
Leaves v given steps loaded tables new step (Err TooManyRows) = new.ended ≡ true
Leaves v given steps loaded tables new step (Err TooManyMessages) = new.ended ≡ true
Leaves v given steps loaded tables new step (Err NoMemory) = new.ended ≡ true

abbrev pub EventLeaves : View → (loaded : List (Option Program)) → (tables next : List Sets) → (old new : Books) → Event → Result (Unit {0}) EventFault → Type 0
EventLeaves v loaded tables next old new e result = (given : Data) (steps : List Step) → Stands v given steps loaded tables old → Leaves v given steps loaded next new (event e) result

-- an event that no shell hears is answered so whatever the shells have
abbrev pub BooksAnswer : View → (old : Books) → Event → Result (Unit {0}) EventFault → Type 0
BooksAnswer v old e result = (loaded : List (Option Program)) (tables : List Sets) → EventAnswers v loaded tables old e result

-- and leaves the books so, and the tables of the shells as they are
abbrev pub BooksLeave : View → (old new : Books) → Event → Result (Unit {0}) EventFault → Type 0
BooksLeave v old new e result = (loaded : List (Option Program)) (tables : List Sets) → EventLeaves v loaded tables tables old new e result
