-- Files in memory, as callers see them.
use Rattle.std.specs.Prelude.{ℕ, ◌<◌, ◌≤◌, ◌⊎◌, List, Option, option_map, find, length, Contains, IsNone, IfSome, String, Vec, string_bytes}
use Rattle.std.specs.Str.{bytes_eq}
use Rattle.std.specs.declared.alloc.Global.{Global}

-- a file: its name and its bytes
pub record MemFile : Type 0 where
  pub name : List ℕ
  pub bytes : List ℕ

-- the file that a pair of a name and bytes stands for
abbrev pub file_of : String Global × Vec ℕ Global → MemFile
file_of pair = record { name = string_bytes pair.0; bytes = pair.1.items }

-- the bytes of the first file with the name
abbrev pub bytes_at : List MemFile → List ℕ → Option (List ℕ)
bytes_at files name = option_map (λ file. file.bytes) (find (λ file. bytes_eq file.name name) files)

-- the files in order, which calls fail (the first call has the number 1), how many calls there were,
-- and how many faults
pub record MemFilesView : Type 0 where
  pub files : List MemFile
  pub failing : List ℕ
  pub calls : ℕ
  pub faults : ℕ

-- the call of this number is to fail, or no file has the name
abbrev pub FailsAt : MemFilesView → ℕ → List ℕ → Type 0
FailsAt source call name = Contains source.failing call ⊎ IsNone (bytes_at source.files name)

-- a file with the name is within the limit, and there isn't room for it
abbrev pub TakesMemory : MemFilesView → List ℕ → ℕ → ℕ → Type 0
TakesMemory source name most room = IfSome (bytes_at source.files name) (λ bytes. (length bytes ≤ most) × (room < length bytes))
