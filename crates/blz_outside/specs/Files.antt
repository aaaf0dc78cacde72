-- The files that a source tells, and facts that hold after one kind of answer to a read.
use Rattle.std.specs.Prelude.{ℕ, List, Option, Some, None, Result, Ok, Err, ⊤}
use Rattle.blz_outside.specs.declared.files.End.{End}
use Rattle.blz_outside.specs.declared.files.End.TheVariants.{Whole, More}
use Rattle.blz_outside.specs.declared.files.ReadFail.{ReadFail}
use Rattle.blz_outside.specs.declared.files.ReadFail.TheVariants.{Failed, NoMemory}

-- a map from the names of files to their bytes
abbrev pub FileMap : Type 0
FileMap = List ℕ → Option (List ℕ)

-- the bytes that are told for a name: none where no file has it or nothing is told
abbrev pub told_bytes : Option FileMap → List ℕ → Option (List ℕ)
told_bytes None name = None
told_bytes (Some bytes_at) name = bytes_at name

-- the fact holds where the answer is that the whole file was read
abbrev pub OnWhole : Result End ReadFail → Type 0 → Type 0
OnWhole (Ok Whole) P = P
OnWhole (Ok More) P = ⊤
OnWhole (Err fail) P = ⊤

-- the fact holds where the answer is that the file is longer
abbrev pub OnMore : Result End ReadFail → Type 0 → Type 0
OnMore (Ok Whole) P = ⊤
OnMore (Ok More) P = P
OnMore (Err fail) P = ⊤

-- the fact holds where the read failed, and not for want of memory
abbrev pub OnFailed : Result End ReadFail → Type 0 → Type 0
OnFailed (Ok end) P = ⊤
OnFailed (Err Failed) P = P
OnFailed (Err NoMemory) P = ⊤

-- the fact holds after every other answer
abbrev pub UnlessFailed : Result End ReadFail → Type 0 → Type 0
UnlessFailed (Ok end) P = P
UnlessFailed (Err Failed) P = ⊤
UnlessFailed (Err NoMemory) P = P
