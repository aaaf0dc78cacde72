-- A list in front of what is given.
use Rattle.std.specs.Prelude.{List, ◌++◌, Option, option_map, Result, Ok, Err}
use Rattle.data_read.specs.declared.fault.DataFault.{DataFault}

abbrev pub with_front : {X : Type 0} → List X → Option (List X) → Option (List X)
with_front front = option_map (λ others. front ++ others)

abbrev pub with_entries : {X : Type 0} → List X → Result (List X) DataFault → Result (List X) DataFault
with_entries front (Ok others) = Ok (front ++ others)
with_entries front (Err fault) = Err fault
