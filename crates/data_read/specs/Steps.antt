-- Steps of a reading, one after the other; the first fault ends it.
use Rattle.std.specs.Prelude.{Result, Ok, Err}
use Rattle.data_read.specs.declared.fault.DataFault.{DataFault}

-- goes on with what was given
infixl 10 ◌>>=◌
abbrev pub ◌>>=◌ : {A B : Type 0} → Result A DataFault → (A → Result B DataFault) → Result B DataFault
(Ok x) >>= next = next x
(Err fault) >>= next = Err fault
