-- A schedule is a list of events: who hears which message, and what is ordered and taken.
use Rattle.std.specs.Prelude.{ℕ, List}

-- the message with this index in the emitted list of a sending replica of a stream
pub record Sent : Type 0 where
  pub stream : ℕ
  pub replica : ℕ
  pub index : ℕ

-- a message that goes to a port
pub record Part : Type 0 where
  pub sent : Sent
  pub port : ℕ

-- an instance hears one message, or several at once; a message comes to the log of an Order component; a replica takes the next entry of its log
pub data Event : Type 0 where
  deliver : (part : Part) → (component replica : ℕ) → Event
  batch : (parts : List Part) → (component replica : ℕ) → Event
  order : (part : Part) → (component : ℕ) → Event
  take_one : (component replica : ℕ) → Event

-- an event, or an instance loses all that it keeps
pub data Step : Type 0 where
  event : Event → Step
  forget : (component replica : ℕ) → Step

-- why a step isn't legal
pub data Refusal : Type 0 where
  no_instance : Refusal
  no_message : Refusal
  nothing_to_take : Refusal
