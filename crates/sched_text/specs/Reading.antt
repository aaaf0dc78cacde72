-- What a line reads as, and what a text reads as: its entries, or the first line that is none of a schedule.
use Rattle.std.specs.Prelude.{◌≡◌, ℕ, ◌+◌, ◌==◌, ◌||◌, nat_lt, Bool, true, false, List, [], ◌∷◌, Option, Some, None, Result, Ok, Err, if◌then◌else◌}
use Rattle.blz_value.specs.FirstPlace.{first_place}
use Rattle.sched_text.specs.declared.event.Event.{Event}
use Rattle.sched_text.specs.declared.fault.ScheduleFault.{ScheduleFault}
use Rattle.sched_text.specs.declared.fault.ScheduleFault.TheVariants as faults
use Rattle.sched_text.specs.Fields.{Field, fields_of}
use Rattle.sched_text.specs.Lines.{Line, lines_of, without_return}
use Rattle.sched_text.specs.Kinds.{event_of}

-- the most lines of a text
abbrev pub line_limit : ℕ
line_limit = 1000000

-- a line is passed over, or stands for something, or is none that a schedule may have
pub data LineReading (X : Type 0) : Type 0 where
  passed_over : LineReading X
  stands_for : X → LineReading X
  bad : LineReading X

abbrev pub reading_from : {X : Type 0} → Option X → LineReading X
reading_from None = bad
reading_from (Some x) = stands_for x

-- a field that begins with `#`
abbrev pub is_comment : Field → Bool
is_comment [] = false
is_comment (byte ∷ others) = byte == 35

-- an empty line, and a comment, whose first field begins with `#`, stand for nothing
abbrev pub reading_of_fields : {X : Type 0} → (Field → List Field → Option X) → List Field → LineReading X
reading_of_fields meaning [] = passed_over
reading_of_fields meaning (first ∷ others) = if is_comment first then passed_over else reading_from (meaning first others)

-- what a line reads as, where this is the meaning of its fields
abbrev pub reading_of_line : {X : Type 0} → (Field → List Field → Option X) → Line → LineReading X
reading_of_line meaning line = reading_of_fields meaning (fields_of (without_return line))

-- what a line of a schedule reads as
abbrev pub event_reading : Line → LineReading Event
event_reading line = reading_of_line event_of line

-- ---- a text

abbrev pub is_bad : {X : Type 0} → LineReading X → Bool
is_bad bad = true
is_bad reading = false

-- the number of the first line that is none of a schedule, which each line past the limit is
abbrev pub bad_line : {X : Type 0} → (Line → LineReading X) → List ℕ → Option ℕ
bad_line reading text = first_place (λ number line. nat_lt line_limit number || is_bad (reading line)) 1 (lines_of text)

-- an entry with the number of its line goes before others, where the line has one
abbrev pub with_entry : {X : Type 0} → ℕ → LineReading X → List (ℕ × X) → List (ℕ × X)
with_entry number (stands_for x) others = (number, x) ∷ others
with_entry number reading others = others

-- what the lines stand for, with their numbers, where the first line has this number
abbrev pub entries_from : {X : Type 0} → (Line → LineReading X) → ℕ → List Line → List (ℕ × X)
entries_from reading number [] = []
entries_from reading number (line ∷ lines) = with_entry number (reading line) (entries_from reading (number + 1) lines)

-- what the lines of a text stand for, with their numbers, counted from 1
abbrev pub entries_of : {X : Type 0} → (Line → LineReading X) → List ℕ → List (ℕ × X)
entries_of reading text = entries_from reading 1 (lines_of text)

-- each line of the text may stand in a schedule, and these are the entries
abbrev pub ReadsAs : {X : Type 0} → (Line → LineReading X) → List ℕ → List (ℕ × X) → Type 0
ReadsAs reading text entries = (bad_line reading text ≡ None) × (entries ≡ entries_of reading text)

-- the entries of a text, seen by view, or the first line that is none of a schedule
abbrev pub GivesEntries : {X Y : Type 0} → (Y → List (ℕ × X)) → (Line → LineReading X) → List ℕ → Result Y ScheduleFault → Type 0
GivesEntries view reading text (Ok entries) = ReadsAs reading text (view entries)
GivesEntries view reading text (Err (faults.Text number)) = bad_line reading text ≡ Some number
GivesEntries view reading text (Err faults.NoMemory) = Unit {0}

-- what a line gives, or the fault that it is the first line and bad
abbrev pub GivesEvent : LineReading Event → Result (Option Event) ScheduleFault → Type 0
GivesEvent reading (Ok None) = reading ≡ passed_over
GivesEvent reading (Ok (Some event)) = reading ≡ stands_for event
GivesEvent reading (Err (faults.Text number)) = (reading ≡ bad) × (number ≡ 1)
GivesEvent reading (Err faults.NoMemory) = Unit {0}
