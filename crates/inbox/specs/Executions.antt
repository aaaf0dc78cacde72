-- An execution is what each instance has heard and what each log holds, after steps of which each was legal when it came.
use Rattle.std.specs.Prelude.{ℕ, ◌==◌, ◌&&◌, nat_lt, not, Bool, false, if◌then◌else◌, Option, Some, None, Result, Ok, Err, List, [], ◌∷◌, map, length, slice_get}
use Rattle.std.specs.List.{fold, position}
use Rattle.std.specs.Option.{option_map_or}
use Rattle.blz_value.specs.Record.{Row}
use Rattle.blz_value.specs.Sets.{set_of}
use Rattle.topo_forms.specs.Data.{Data, source_data}
use Rattle.topo_forms.specs.Messages.{Message, row, seal, rows_in, source_messages}
use Rattle.messages.specs.Messages.{Pair, Entry, is_same_entry, with_new}
use Rattle.topo_forms.specs.View.{End, Stream, is_order_mode}
use Rattle.inbox.specs.Instances.{Instance}
use Rattle.inbox.specs.Lives.{Lives, one_life, hear_batch, take_entry, forget_all, emitted_by}
use Rattle.inbox.specs.Wiring.{Wiring, instance_at, is_there, is_sequencer}
use Rattle.inbox.specs.Events.{Sent, Part, Event, deliver, batch, order, take_one, Step, event, forget, Refusal, no_instance, no_message, nothing_to_take}

-- ---- what an execution is

-- the lives of each replica of each component, and the log of each component
pub record Execution : Type 0 where
  pub lives : (component replica : ℕ) → Lives
  pub logs : (component : ℕ) → List Entry

-- nothing is heard and nothing logged
abbrev pub first_execution : Execution
first_execution = record { lives = λ component replica. one_life; logs = λ component. [] }

-- an execution in which the lives of one instance are changed
abbrev pub with_lives : (component replica : ℕ) → (Lives → Lives) → Execution → Execution
with_lives component replica change x = record {
  lives = λ c r. if c == component && r == replica then change (x.lives c r) else x.lives c r;
  logs = x.logs;
}

-- an execution in which an entry stands in the log of a component: at its end, where it is new
abbrev pub with_entry : (component : ℕ) → Entry → Execution → Execution
with_entry component entry x = record {
  lives = x.lives;
  logs = λ c. if c == component then with_new is_same_entry (x.logs c) entry else x.logs c;
}

-- ---- emitted lists

-- the emitted list of a stream with this origin
abbrev pub list_from : Option End → Wiring → Data → Execution → Stream → (stream replica : ℕ) → List Message
list_from None w given x line stream replica = source_messages line (source_data given stream)
list_from (Some spot) w given x line stream replica = emitted_by (instance_at w spot.0 replica) (x.logs spot.0) (x.lives spot.0 replica) spot.1

-- the emitted list of a sending replica of a stream
abbrev pub emitted_list : Wiring → Data → Execution → (stream replica : ℕ) → List Message
emitted_list w given x stream replica = option_map_or (λ line. list_from line.origin w given x line stream replica) (slice_get w.streams stream) []

-- the set of the records in an emitted list
abbrev pub contents : Wiring → Data → Execution → (stream replica : ℕ) → List Row
contents w given x stream replica = set_of (rows_in (emitted_list w given x stream replica))

-- ---- which events are legal, and what they make

-- the second answer where the first is no refusal
abbrev pub result_and_then : {A B E : Type 0} → Result A E → (A → Result B E) → Result B E
result_and_then (Ok a) f = f a
result_and_then (Err e) f = Err e

-- the feed on which a part comes to an instance
abbrev pub feed_of : Instance → Part → Option ℕ
feed_of i part = position (λ feed. feed.port == part.port && (feed.stream == part.sent.stream && feed.sender == part.sent.replica)) i.feeds

-- the message that is sent
abbrev pub message_of : Wiring → Data → Execution → Sent → Option Message
message_of w given x sent = slice_get (emitted_list w given x sent.stream sent.replica) sent.index

-- a pair of a feed and a message, where both are there
abbrev pub pair_with : (feed : Option ℕ) → Option Message → Result Pair Refusal
pair_with None message = Err no_instance
pair_with (Some feed) None = Err no_message
pair_with (Some feed) (Some message) = Ok (feed, message)

-- the pair that an instance hears by a part
abbrev pub pair_of : Wiring → Data → Execution → Instance → Part → Result Pair Refusal
pair_of w given x i part = pair_with (feed_of i part) (message_of w given x part.sent)

-- the pairs of some parts, or the first refusal
abbrev pub pairs_of : Wiring → Data → Execution → Instance → List Part → Result (List Pair) Refusal
pairs_of w given x i [] = Ok []
pairs_of w given x i (part ∷ parts) = result_and_then (pair_of w given x i part) (λ pair. result_and_then (pairs_of w given x i parts) (λ pairs. Ok (pair ∷ pairs)))

-- the instance is there and hears messages, and there is one
abbrev pub is_hearing : Wiring → (component replica : ℕ) → List Part → Bool
is_hearing w component replica [] = false
is_hearing w component replica (part ∷ parts) = is_there w component replica && not (is_order_mode (instance_at w component replica).mode)

-- an instance hears parts at once: it is there, isn't Order, and there is a part
abbrev pub after_hearing : Wiring → Data → List Part → (component replica : ℕ) → Execution → Result Execution Refusal
after_hearing w given parts component replica x =
    if is_hearing w component replica parts
    then result_and_then (pairs_of w given x (instance_at w component replica) parts) (λ pairs. Ok (with_lives component replica (hear_batch pairs) x))
    else Err no_instance

-- a message goes to a log: a record as an entry, a seal changes nothing
abbrev pub with_logged : (component port : ℕ) → Message → Execution → Execution
with_logged component port (row r) x = with_entry component (port, r) x
with_logged component port (seal k n) x = x

-- a message comes to the log of an Order component
abbrev pub after_ordering : Wiring → Data → Part → (component : ℕ) → Execution → Result Execution Refusal
after_ordering w given part component x =
    if is_sequencer w component
    then result_and_then (pair_of w given x (instance_at w component 0) part) (λ pair. Ok (with_logged component part.port pair.1 x))
    else Err no_instance

-- a replica takes the next entry, where the log is longer than what it took in its last life
abbrev pub after_taking : (component replica : ℕ) → Execution → Result Execution Refusal
after_taking component replica x =
    if nat_lt (x.lives component replica).last.taken (length (x.logs component))
    then Ok (with_lives component replica take_entry x)
    else Err nothing_to_take

-- after one event
abbrev pub after_event : Wiring → Data → Event → Execution → Result Execution Refusal
after_event w given (deliver part component replica) x = after_hearing w given (part ∷ []) component replica x
after_event w given (batch parts component replica) x = after_hearing w given parts component replica x
after_event w given (order part component) x = after_ordering w given part component x
after_event w given (take_one component replica) x = if is_there w component replica && is_order_mode (instance_at w component replica).mode then after_taking component replica x else Err no_instance

-- after one step: an event, or a forget of an instance that is there
abbrev pub after_step : Wiring → Data → Step → Execution → Result Execution Refusal
after_step w given (event e) x = after_event w given e x
after_step w given (forget component replica) x = if is_there w component replica then Ok (with_lives component replica forget_all x) else Err no_instance

-- the execution after a list of steps, or the refusal of its first step that isn't legal
abbrev pub execution_of : Wiring → Data → List Step → Result Execution Refusal
execution_of w given steps = fold (λ result step. result_and_then result (after_step w given step)) (Ok first_execution) steps

-- the case without forgets
abbrev pub execution_of_events : Wiring → Data → List Event → Result Execution Refusal
execution_of_events w given events = execution_of w given (map event events)
