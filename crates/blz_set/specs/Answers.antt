-- What an operation on sets answers.
use Rattle.std.specs.Prelude.{◌≡◌, ◌<◌, ◌≤◌, List, ◌++◌, length, Result, Ok, Err}
use Rattle.blz_value.specs.Record.{Row}
use Rattle.blz_value.specs.Sets.{set_of}
use Rattle.blz_set.specs.RecordSet.{row_limit}
use Rattle.blz_set.specs.declared.fault.SetFault.{SetFault}
use Rattle.blz_set.specs.declared.fault.SetFault.TheVariants.{TooManyRows, NoMemory}

-- the answer is these rows; TooManyRows comes exactly where they are too many
abbrev pub Gives : List Row → Result (List Row) SetFault → Type 0
Gives rows (Ok set) = (set ≡ rows) × (length rows ≤ row_limit)
Gives rows (Err TooManyRows) = row_limit < length rows
Gives rows (Err NoMemory) = Unit {0}

-- the old set becomes these rows; TooManyRows comes exactly where they are too many, and each fault leaves the old set
abbrev pub Becomes : {X : Type 0} → List Row → List Row → List Row → Result X SetFault → Type 0
Becomes old rows new (Ok x) = (new ≡ rows) × (length rows ≤ row_limit)
Becomes old rows new (Err TooManyRows) = (new ≡ old) × (row_limit < length rows)
Becomes old rows new (Err NoMemory) = new ≡ old
