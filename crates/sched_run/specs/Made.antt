-- The schedule that is made of a seed: turn by turn a draw chooses among the open works, until none is open.
use Rattle.std.specs.Prelude.{◌≡◌, ℕ, zero, suc, ◌/◌, ◌%◌, ◌==◌, ◌&&◌, not, nat_lt, Bool, true, false, if◌then◌else◌, Option, Result, Ok, Err, List, [], ◌∷◌, ◌++◌, map, filter, length, take, slice_get, slice_index_or}
use Rattle.std.specs.List.{list_any, filter_map, flat_map, range_with_len, enumerate_from}
use Rattle.std.specs.Option.{option_map, option_map_or, option_and_then}
use Rattle.std.specs.Result.{result_unwrap_or}
use Rattle.topo_forms.specs.Data.{Data}
use Rattle.topo_forms.specs.Feeds.{Feed}
use Rattle.topo_forms.specs.Messages.{Message, row_in}
use Rattle.topo_forms.specs.View.{End}
use Rattle.messages.specs.Messages.{Pair, Entry, is_same_pair, is_same_entry, all_pairs}
use Rattle.inbox.specs.Wiring.{Wiring, instances_at, instance_at, is_sequencer}
use Rattle.inbox.specs.Events.{Part, Event, deliver, batch, order, take_one}
use Rattle.inbox.specs.Executions.{Execution, first_execution, emitted_list, execution_of_events}
use Rattle.inbox.specs.Completeness.{left_count}
use Rattle.sched_turns.specs.Draws.{next_state, drawn_number}
use Rattle.sched_turns.specs.Windows.{first_open}
use Rattle.inbox.specs.Limits.{Limit, too_many_rows, too_many_messages, limit_of_event}
use Rattle.sched_net.specs.declared.fault.MakeFault.{MakeFault}
use Rattle.sched_net.specs.declared.fault.MakeFault.TheVariants.{TooManyEvents, TooManyRows, TooManyMessages, NoMemory}
use Rattle.sched_run.specs.declared.lanes.Lane.{Lane}
use Rattle.sched_run.specs.declared.lanes.Lane.TheVariants.{Deliver, Order}
use Rattle.sched_run.specs.declared.lanes.Taker.{Taker}

-- ---- lanes, on which messages come to an instance or to a log, and takers, which take from a log

-- the replicas of a component, by number
abbrev pub replicas_at : Wiring → (component : ℕ) → List ℕ
replicas_at w component = range_with_len 0 (length (instances_at w component))

-- a feed is one from this stream at this port
abbrev pub comes_at : (stream port : ℕ) → Feed → Bool
comes_at stream port feed = feed.stream == stream && feed.port == port

-- such feeds of an instance, with their numbers
abbrev pub feeds_here : (stream port : ℕ) → List Feed → List (ℕ × Feed)
feeds_here stream port feeds = filter (λ place. comes_at stream port place.1) (enumerate_from 0 feeds)

-- the lanes of an instance, or of the log of a component, from a stream at a port: one for each sending replica
abbrev pub instance_lanes : Wiring → (stream component port replica : ℕ) → List Lane
instance_lanes w stream component port replica = map (λ place. Deliver component replica place.0 place.1) (feeds_here stream port (instance_at w component replica).feeds)

abbrev pub log_lanes : Wiring → (stream component port : ℕ) → List Lane
log_lanes w stream component port = map (λ place. Order component place.1) (feeds_here stream port (instance_at w component 0).feeds)

-- the lanes where a stream leads
abbrev pub lanes_at : Wiring → (stream : ℕ) → End → List Lane
lanes_at w stream end =
    if is_sequencer w end.0
    then log_lanes w stream end.0 end.1
    else flat_map (instance_lanes w stream end.0 end.1) (replicas_at w end.0)

-- all lanes: by stream, then by where it leads, then by receiving and by sending replica
abbrev pub all_lanes : Wiring → List Lane
all_lanes w = flat_map (λ place. flat_map (lanes_at w place.0) place.1.to) (enumerate_from 0 w.streams)

-- the replicas of Order components
abbrev pub takers_at : Wiring → (component : ℕ) → List Taker
takers_at w component = if is_sequencer w component then map (λ replica. record { component = component; replica = replica }) (replicas_at w component) else []

abbrev pub all_takers : Wiring → List Taker
all_takers w = flat_map (takers_at w) (range_with_len 0 (length w.components))

-- ---- open works

-- the message with an index wasn't heard on a feed
abbrev pub is_undelivered : (heard : List Pair) → (feed : ℕ) → List Message → (index : ℕ) → Bool
is_undelivered heard feed list index = option_map_or (λ message. not (list_any (is_same_pair (feed, message)) heard)) (slice_get list index) false

-- it is a record whose pair with a port isn't in a log
abbrev pub is_unordered : (log : List Entry) → (port : ℕ) → List Message → (index : ℕ) → Bool
is_unordered log port list index = option_map_or (λ r. not (list_any (is_same_entry (port, r)) log)) (option_and_then row_in (slice_get list index)) false

-- the feed of a lane
abbrev pub lane_feed : Lane → Feed
lane_feed (Deliver component replica number feed) = feed
lane_feed (Order component feed) = feed

-- the emitted list that comes on a lane
abbrev pub lane_list : Wiring → Data → Execution → Lane → List Message
lane_list w given x lane = emitted_list w given x (lane_feed lane).stream (lane_feed lane).sender

-- an index of it is open
abbrev pub is_open_in : Wiring → Data → Execution → Lane → (index : ℕ) → Bool
is_open_in w given x (Deliver component replica number feed) = is_undelivered (all_pairs (x.lives component replica).last.heard) number (lane_list w given x (Deliver component replica number feed))
is_open_in w given x (Order component feed) = is_unordered (x.logs component) feed.port (lane_list w given x (Order component feed))

-- the message of a feed with an index, at the feed's port
abbrev pub part_on : Feed → (index : ℕ) → Part
part_on feed index = record { sent = record { stream = feed.stream; replica = feed.sender; index = index }; port = feed.port }

-- the event by which it comes
abbrev pub event_in : Lane → (index : ℕ) → Event
event_in (Deliver component replica number feed) index = deliver (part_on feed index) component replica
event_in (Order component feed) index = order (part_on feed index) component

-- the works of a lane: its first open indexes
abbrev pub works_in : Wiring → Data → Execution → Lane → List Event
works_in w given x lane = map (event_in lane) (first_open (is_open_in w given x lane) (length (lane_list w given x lane)))

-- a replica has something to take
abbrev pub can_take : Execution → Taker → Bool
can_take x taker = nat_lt (x.lives taker.component taker.replica).last.taken (length (x.logs taker.component))

abbrev pub works_of : Execution → Taker → List Event
works_of x taker = if can_take x taker then take_one taker.component taker.replica ∷ [] else []

-- all open works, in their order
abbrev pub open_works : Wiring → Data → Execution → List Event
open_works w given x = flat_map (works_in w given x) (all_lanes w) ++ flat_map (works_of x) (all_takers w)

-- ---- turns

-- the execution after events, all of which are legal
abbrev pub execution_after : Wiring → Data → List Event → Execution
execution_after w given events = result_unwrap_or (execution_of_events w given events) first_execution

abbrev pub is_take : Event → Bool
is_take (deliver part component replica) = false
is_take (batch parts component replica) = false
is_take (order part component) = false
is_take (take_one component replica) = true

-- a number says that an event comes once more
abbrev pub says_again : (number : ℕ) → Bool
says_again number = (number / 65536) % 8 == 0

-- the event that is chosen, and once more where the number says so and it isn't a take
abbrev pub chosen_events : (number : ℕ) → Event → List Event
chosen_events number e = if not (is_take e) && says_again number then e ∷ e ∷ [] else e ∷ []

-- the state of the draws, and the events so far
pub record Course : Type 0 where
  pub state : ℕ
  pub events : List Event

-- one turn where these works are open: a draw chooses among them, and where none is nothing is drawn
abbrev pub turn_among : Course → (works : List Event) → Course
turn_among course [] = course
turn_among course (e ∷ works) =
    let number = drawn_number (next_state course.state) in
    record {
      state = next_state course.state;
      events = course.events ++ chosen_events number (slice_index_or (e ∷ works) (number % length (e ∷ works)) e);
    }

abbrev pub turn : Wiring → Data → Course → Course
turn w given course = turn_among course (open_works w given (execution_after w given course.events))

-- after so many turns from a seed
abbrev pub after_turns : Wiring → Data → (seed turns : ℕ) → Course
after_turns w given seed zero = record { state = seed; events = [] }
after_turns w given seed (suc turns) = turn w given (after_turns w given seed turns)

-- the events of a seed: turns go on until nothing is open, or until there are more than so many
abbrev pub generated : Wiring → Data → (seed most : ℕ) → List Event
generated w given seed most = (after_turns w given seed (suc most)).events

-- ---- limits, and what is answered

-- the limit that an event of a list meets after those before it
abbrev pub limit_at_place : Wiring → Data → List Event → (place : ℕ) → Option Limit
limit_at_place w given events place = option_and_then (λ e. limit_of_event w given e (execution_after w given (take place events))) (slice_get events place)

-- the fault of the event with this number, by the limit that it meets
abbrev pub fault_by : (number : ℕ) → Limit → MakeFault
fault_by number too_many_rows = TooManyRows number
fault_by number too_many_messages = TooManyMessages number

-- the faults of all events of a list that meet a limit; events are numbered from 1
abbrev pub faults_in : Wiring → Data → List Event → List MakeFault
faults_in w given events = filter_map (λ place. option_map (fault_by (suc place)) (limit_at_place w given events place)) (range_with_len 0 (length events))

-- these events, or the first of the faults, or that there are too many
abbrev pub unless_at_fault : (most : ℕ) → List Event → (faults : List MakeFault) → Result (List Event) MakeFault
unless_at_fault most events [] = if nat_lt most (length events) then Err TooManyEvents else Ok events
unless_at_fault most events (fault ∷ faults) = Err fault

-- the generated schedule of at most so many events, or why there is none: the first event that meets a limit, or that one more is due
abbrev pub made_within : Wiring → Data → (seed most : ℕ) → Result (List Event) MakeFault
made_within w given seed most = unless_at_fault most (generated w given seed most) (faults_in w given (take most (generated w given seed most)))

-- the most events of a schedule that is made
abbrev pub event_limit : ℕ
event_limit = 1000000

-- a schedule has at most a million events
unfoldable pub made_of : Wiring → Data → (seed : ℕ) → Result (List Event) MakeFault
made_of w given seed = made_within w given seed event_limit

-- all events are legal, each when it comes, and after them nothing is left to deliver, to order or to take
pub record LeavesNothing (w : Wiring) (given : Data) (events : List Event) : Type 0 where
  pub legal : execution_of_events w given events ≡ Ok (execution_after w given events)
  pub left : left_count w given (execution_after w given events) ≡ 0

-- so it is answered, unless memory runs out, and a schedule leaves nothing
abbrev pub AnswersSo : Wiring → Data → (answer : Result (List Event) MakeFault) → Result (List Event) MakeFault → Type 0
AnswersSo w given answer (Ok events) = (answer ≡ Ok events) × LeavesNothing w given events
AnswersSo w given answer (Err NoMemory) = Unit {0}
AnswersSo w given answer (Err TooManyEvents) = answer ≡ Err TooManyEvents
AnswersSo w given answer (Err (TooManyRows number)) = answer ≡ Err (TooManyRows number)
AnswersSo w given answer (Err (TooManyMessages number)) = answer ≡ Err (TooManyMessages number)
