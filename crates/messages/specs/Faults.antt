-- Which faults an emission and a legal event can meet.
use Rattle.std.specs.Prelude.{Result, Ok, Err}
use Rattle.messages.specs.declared.fault.EventFault.{EventFault}
use Rattle.messages.specs.declared.fault.EventFault.TheVariants.{NoInstance, NoMessage, NothingToTake, TooManyRows, TooManyMessages, NoMemory}

-- an emission meets no fault but the limit of messages and want of memory
abbrev pub IsLimit : {X : Type 0} → Result X EventFault → Type 0
IsLimit (Ok x) = Unit {0}
IsLimit (Err NoInstance) = ⊥
IsLimit (Err NoMessage) = ⊥
IsLimit (Err NothingToTake) = ⊥
IsLimit (Err TooManyRows) = ⊥
IsLimit (Err TooManyMessages) = Unit {0}
IsLimit (Err NoMemory) = Unit {0}

-- a legal event meets no fault but the limits and want of memory
abbrev pub IsLegal : {X : Type 0} → Result X EventFault → Type 0
IsLegal (Ok x) = Unit {0}
IsLegal (Err NoInstance) = ⊥
IsLegal (Err NoMessage) = ⊥
IsLegal (Err NothingToTake) = ⊥
IsLegal (Err TooManyRows) = Unit {0}
IsLegal (Err TooManyMessages) = Unit {0}
IsLegal (Err NoMemory) = Unit {0}
