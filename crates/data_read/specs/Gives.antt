-- What a function of the code returned, beside what the definition gives.
use Rattle.std.specs.Prelude.{◌≡◌, Option, Some, None, Result, Ok, Err}
use Rattle.data_read.specs.declared.fault.DataFault.{DataFault}
use Rattle.data_read.specs.declared.fault.DataFault.TheVariants.{NotJson, DataForm, TooMany, FdBroken, NoMemory}
use Rattle.data_read.specs.declared.fault.ValueFault.{ValueFault}
use Rattle.data_read.specs.declared.fault.ValueFault.TheVariants as value

-- this fault, unless memory ran out
abbrev pub IsFault : DataFault → DataFault → Type 0
IsFault wanted NotJson = wanted ≡ NotJson
IsFault wanted (DataForm name row) = wanted ≡ DataForm name row
IsFault wanted (TooMany name) = wanted ≡ TooMany name
IsFault wanted (FdBroken fd first second) = wanted ≡ FdBroken fd first second
IsFault wanted NoMemory = Unit {0}

-- what is given, seen by view, or its fault, unless memory ran out
abbrev pub Gives : {X Y : Type 0} → (X → Y) → Result X DataFault → Result Y DataFault → Type 0
Gives view (Ok x) given = given ≡ Ok (view x)
Gives view (Err NotJson) given = given ≡ Err NotJson
Gives view (Err (DataForm name row)) given = given ≡ Err (DataForm name row)
Gives view (Err (TooMany name)) given = given ≡ Err (TooMany name)
Gives view (Err (FdBroken fd first second)) given = given ≡ Err (FdBroken fd first second)
Gives view (Err NoMemory) given = Unit {0}

-- what a JSON value gives, seen by view, unless memory ran out
abbrev pub GivesValue : {X Y : Type 0} → (X → Y) → Result X ValueFault → Option Y → Type 0
GivesValue view (Ok x) given = given ≡ Some (view x)
GivesValue view (Err value.Break) given = given ≡ None
GivesValue view (Err value.NoMemory) given = Unit {0}
