-- What the readers of lines and fields return, beside what reading gives.
use Rattle.std.specs.Prelude.{◌≡◌, ℕ, List, Option, Some, None, Result, Ok, Err}
use Rattle.sched_text.specs.declared.fault.LineFault.{LineFault}
use Rattle.sched_text.specs.declared.fault.LineFault.TheVariants as line
use Rattle.sched_text.specs.declared.fault.ScheduleFault.{ScheduleFault}
use Rattle.sched_text.specs.declared.fault.ScheduleFault.TheVariants as text
use Rattle.sched_text.specs.Fields.{Field}
use Rattle.sched_text.specs.Kinds.{Front}
use Rattle.sched_text.specs.Reading.{LineReading, passed_over, stands_for, bad}

-- the fault of a line as one of a text in which it has this number
abbrev pub fault_at : ℕ → LineFault → ScheduleFault
fault_at number line.Bad = text.Text number
fault_at number line.NoMemory = text.NoMemory

-- what was read of some fields and the fields behind it, unless memory ran out
abbrev pub TakesFront : {X Y : Type 0} → (X → Y) → Result X LineFault → List Field → Front Y → Type 0
TakesFront view (Ok x) rest front = front ≡ Some (view x, rest)
TakesFront view (Err line.Bad) rest front = front ≡ None
TakesFront view (Err line.NoMemory) rest front = Unit {0}

-- what all fields stand for, unless memory ran out
abbrev pub GivesAll : {X : Type 0} → Result X LineFault → Option X → Type 0
GivesAll (Ok x) read = read ≡ Some x
GivesAll (Err line.Bad) read = read ≡ None
GivesAll (Err line.NoMemory) read = Unit {0}

-- what a line gives, unless memory ran out
abbrev pub GivesLine : {X : Type 0} → Result (Option X) LineFault → LineReading X → Type 0
GivesLine (Ok None) reading = reading ≡ passed_over
GivesLine (Ok (Some x)) reading = reading ≡ stands_for x
GivesLine (Err line.Bad) reading = reading ≡ bad
GivesLine (Err line.NoMemory) reading = Unit {0}
