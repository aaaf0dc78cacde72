-- The places of faults of a reader of terminals.
use Rattle.std.specs.Prelude.{List}
use Rattle.bloom_parse.specs.declared.lexing.terminal.Terminal.{Terminal}
use Rattle.bloom_parse.specs.declared.reading.read_fault.ReadFault.{ReadFault}
use Rattle.bloom_parse.specs.declared.reading.read_fault.ReadFault.TheVariants.{Left, NoMemory}
use Rattle.bloom_parse.specs.Places.{IsFault}

-- so many terminals are left from the first on that no module text has there, or memory ran out
abbrev pub IsPlace : List Terminal → ReadFault → Type 0
IsPlace ts (Left n) = IsFault ts n
IsPlace ts NoMemory = Unit {0}
