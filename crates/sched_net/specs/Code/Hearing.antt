-- What changes where an instance hears a batch, and what is emitted by it.
use Rattle.std.specs.Prelude.{◌≡◌, ◌<◌, ◌↔◌, true, ◌⊎◌, ◌++◌, ◌∷◌, [], ℕ, Option, Some, Result, Ok, Err, List, length, slice_get, slice_set}
use Rattle.std.specs.List.{All}
use Rattle.blz_value.specs.Members.{Has}
use Rattle.blz_value.specs.Record.{Row}
use Rattle.bloom_forms.specs.declared.program.Program.{Program}
use Rattle.bloom_forms.specs.Step.{Sets}
use Rattle.topo_forms.specs.Data.{Data}
use Rattle.topo_forms.specs.View.{View}
use Rattle.messages.specs.Messages.{Batch, all_pairs}
use Rattle.inbox.specs.Instances.{Instance}
use Rattle.inbox.specs.Timesteps.{SetOff, set_off}
use Rattle.messages.specs.Ids.{IsGiven, batch_with_ids}
use Rattle.inbox.specs.Inbox.{HasHeard, IsFrom, feeds_in}
use Rattle.inbox.specs.Wiring.{Wiring, feeds_for}
use Rattle.inbox.specs.Executions.{Execution, after_event, after_hearing}
use Rattle.inbox.specs.Events.{Part, Event, event, Step}
use Rattle.inbox.specs.declared.inbox.Inbox.{Inbox}
use Rattle.messages.specs.declared.message.Message.{Message as IdMessage}
use Rattle.inbox.specs.Limits.{limit_of_event, limit_of_hearing}
use Rattle.messages.specs.Known.{is_known}
use Rattle.inbox.specs.Places.{instance_place}
use Rattle.sched_net.specs.Net.{Stands, EventAnswers}
use Rattle.sched_net.specs.Code.Parts.{ArePairs}
use Rattle.sched_net.specs.declared.books.Books.{Books}
use Rattle.messages.specs.declared.fault.EventFault.{EventFault}
use Rattle.messages.specs.declared.fault.EventFault.TheVariants.{NoInstance, NoMessage, NothingToTake, TooManyRows, TooManyMessages, NoMemory}
use Rattle.sched_net.specs.declared.seated.Ear.{Ear}
use Rattle.sched_net.specs.declared.seated.Ear.TheVariants.{Hears, Takes}
use Rattle.sched_net.specs.declared.seated.Seated.{Seated}

-- ---- what hears

-- a batch can be heard, whose ids the pool gave
pub record CanHear (records : List Row) (batch : List (ℕ × IdMessage)) (inbox : Inbox) : Type 0 where
  pub feeds : All (λ pair. pair.0 < feeds_in inbox) batch
  pub given : All (λ pair. IsGiven records pair.1) batch
  pub kept : IsFrom records inbox

abbrev pub EarCanHear : List Row → List (ℕ × IdMessage) → Ear → Type 0
EarCanHear records batch (Hears inbox known) = CanHear records batch inbox
EarCanHear records batch (Takes taken) = ⊥

-- an inbox heard a batch, which set this off
pub record InboxHears (records : List Row) (batch : List (ℕ × IdMessage)) (s : SetOff) (old new : Inbox) : Type 0 where
  pub steps : (i : Instance) (batches : List Batch) → HasHeard i records batches old → s.steps ≡ (set_off i (all_pairs batches) (batch_with_ids records batch)).steps
  pub whole : (i : Instance) (batches : List Batch) → HasHeard i records batches old → s.whole ≡ (set_off i (all_pairs batches) (batch_with_ids records batch)).whole
  pub heard : (i : Instance) (batches : List Batch) → HasHeard i records batches old → HasHeard i records (batches ++ batch_with_ids records batch ∷ []) new
  pub feeds : feeds_in new ≡ feeds_in old
  pub kept : IsFrom records new

-- these messages are known too
abbrev pub KnowsMore : (old : List (List ℕ)) → (more : List (ℕ × ℕ)) → (new : List (List ℕ)) → Type 0
KnowsMore old more new = (feed index : ℕ) → (is_known new feed index ≡ true) ↔ ((is_known old feed index ≡ true) ⊎ Has (feed, index) more)

abbrev pub EarHears : List Row → List (ℕ × IdMessage) → (indexes : List (ℕ × ℕ)) → SetOff → (old new : Ear) → Type 0
EarHears records batch indexes s (Hears inbox known) (Hears next later) = InboxHears records batch s inbox next × KnowsMore known indexes later
EarHears records batch indexes s (Hears inbox known) (Takes taken) = ⊥
EarHears records batch indexes s (Takes taken) new = ⊥

-- an instance did, and stays what it is
pub record SeatHears (records : List Row) (batch : List (ℕ × IdMessage)) (indexes : List (ℕ × ℕ)) (s : SetOff) (old new : Seated) : Type 0 where
  pub outlets : new.outlets ≡ old.outlets
  pub feeds : new.feeds ≡ old.feeds
  pub ear : EarHears records batch indexes s old.ear new.ear

-- the instance at a place did, and all others stay
pub record OneHears (records : List Row) (batch : List (ℕ × IdMessage)) (indexes : List (ℕ × ℕ)) (s : SetOff) (place : ℕ) (old new : List Seated) : Type 0 where
  pub seat : Seated
  pub changed : new ≡ slice_set old place seat
  pub hears : (was : Seated) → slice_get old place ≡ Some was → SeatHears records batch indexes s was seat

-- an instance heard some parts: their pairs, by their indexes, on feeds that it has
pub record HearsParts (v : View) (old : Books) (c r : ℕ) (parts : List Part) (s : SetOff) (now : List Seated) : Type 0 where
  pub pairs : List (ℕ × IdMessage)
  pub indexes : List (ℕ × ℕ)
  pub are : ArePairs v old c r parts pairs indexes
  pub feeds : All (λ pair. pair.0 < length (feeds_for v c r)) pairs
  pub heard : OneHears old.lists.records pairs indexes s (instance_place v c r) old.seats.items now

-- ---- what an event leaves before a fault ends the net

abbrev pub LeavesOpen : View → Data → List Step → (loaded : List (Option Program)) → (tables : List Sets) → (new : Books) → Step → Result (Unit {0}) EventFault → Type 0
LeavesOpen v given steps loaded tables new step (Ok x) = Stands v given (steps ++ step ∷ []) loaded tables new
LeavesOpen v given steps loaded tables new step (Err NoInstance) = Stands v given steps loaded tables new
LeavesOpen v given steps loaded tables new step (Err NoMessage) = Stands v given steps loaded tables new
LeavesOpen v given steps loaded tables new step (Err NothingToTake) = Stands v given steps loaded tables new
LeavesOpen v given steps loaded tables new step (Err TooManyRows) = Unit {0}
LeavesOpen v given steps loaded tables new step (Err TooManyMessages) = Unit {0}
LeavesOpen v given steps loaded tables new step (Err NoMemory) = Unit {0}

abbrev pub EventLeavesOpen : View → (loaded : List (Option Program)) → (tables next : List Sets) → (old new : Books) → Event → Result (Unit {0}) EventFault → Type 0
EventLeavesOpen v loaded tables next old new e result = (given : Data) (steps : List Step) → Stands v given steps loaded tables old → LeavesOpen v given steps loaded next new (event e) result

-- and where no shell hears it, whatever the shells have
abbrev pub BooksLeaveOpen : View → (old new : Books) → Event → Result (Unit {0}) EventFault → Type 0
BooksLeaveOpen v old new e result = (loaded : List (Option Program)) (tables : List Sets) → EventLeavesOpen v loaded tables tables old new e result

-- a fault that is no refusal ends the net
abbrev pub EndsAt : (old new : Books) → Result (Unit {0}) EventFault → Type 0
EndsAt old new (Ok x) = new ≡ old
EndsAt old new (Err NoInstance) = new ≡ old
EndsAt old new (Err NoMessage) = new ≡ old
EndsAt old new (Err NothingToTake) = new ≡ old
EndsAt old new (Err TooManyRows) = new.ended ≡ true
EndsAt old new (Err TooManyMessages) = new.ended ≡ true
EndsAt old new (Err NoMemory) = new.ended ≡ true

-- ---- events that are hearings

-- the event makes of each execution what the hearing of these parts does, and meets the same limit
pub record IsHearingOf (e : Event) (parts : List Part) (component replica : ℕ) : Type 0 where
  pub after : (w : Wiring) (given : Data) (x : Execution) → after_event w given e x ≡ after_hearing w given parts component replica x
  pub limit : (w : Wiring) (given : Data) (x : Execution) → limit_of_event w given e x ≡ limit_of_hearing w given parts component replica x

-- each such event is answered so
abbrev pub HearingAnswers : View → (loaded : List (Option Program)) → (tables : List Sets) → Books → List Part → (component replica : ℕ) → Result (Unit {0}) EventFault → Type 0
HearingAnswers v loaded tables old parts c r result = (e : Event) → IsHearingOf e parts c r → EventAnswers v loaded tables old e result

-- and leaves the net so, but for the faults that end it
abbrev pub HearingLeaves : View → (loaded : List (Option Program)) → (tables next : List Sets) → (old new : Books) → List Part → (component replica : ℕ) → Result (Unit {0}) EventFault → Type 0
HearingLeaves v loaded tables next old new parts c r result = (e : Event) → IsHearingOf e parts c r → EventLeavesOpen v loaded tables next old new e result
