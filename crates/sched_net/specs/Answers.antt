-- What a net answers to an event.
use Rattle.std.specs.Prelude.{◌≡◌, ◌≢◌, Option, None, Some, Result, Ok, Err}
use Rattle.inbox.specs.Events.{Refusal, no_instance, no_message, nothing_to_take}
use Rattle.inbox.specs.Executions.{Execution}
use Rattle.messages.specs.declared.fault.EventFault.{EventFault}
use Rattle.messages.specs.declared.fault.EventFault.TheVariants.{NoInstance, NoMessage, NothingToTake, TooManyRows, TooManyMessages, NoMemory}
use Rattle.inbox.specs.Limits.{Limit, too_many_rows, too_many_messages}

-- the fault of a refusal
abbrev pub fault_of : Refusal → EventFault
fault_of no_instance = NoInstance
fault_of no_message = NoMessage
fault_of nothing_to_take = NothingToTake

-- the fault of a limit
abbrev pub fault_at : Limit → EventFault
fault_at too_many_rows = TooManyRows
fault_at too_many_messages = TooManyMessages

-- the answer to a legal event, by the limit that it meets
abbrev pub answer_at : Option Limit → Result (Unit {0}) EventFault
answer_at None = Ok tt
answer_at (Some limit) = Err (fault_at limit)

-- the answer to an event that makes this of an execution, or is refused
abbrev pub answer_to : Result Execution Refusal → Option Limit → Result (Unit {0}) EventFault
answer_to (Ok x) limit = answer_at limit
answer_to (Err refusal) limit = Err (fault_of refusal)

-- so it is answered, unless memory runs out
abbrev pub Answers : Result Execution Refusal → Option Limit → Result (Unit {0}) EventFault → Type 0
Answers after limit result = result ≢ Err NoMemory → result ≡ answer_to after limit
