-- How a script ends over a source of files.
use Rattle.std.specs.Prelude.{◌≡◌, ◌⊎◌, ℕ, Bool, IsTrue, Option, None, IfSome, IsSome}
use Rattle.std.specs.Option.{option_map_or}
use Rattle.blz_outside.specs.Counts.{Rose}
use Rattle.blz_outside.specs.Files.{FileMap, told_bytes}
use Rattle.command_checks.specs.Script.{Bytes, Script, Ending}

-- what a source tells: the bytes of its files, and whether it fails only for want of a file
pub record Told : Type 0 where
  pub held : Option FileMap
  pub steady : Bool

-- a source of files
pub record Source : Type 0 where
  pub told : Told
  -- the count of its faults
  pub faults : ℕ

-- a source before and after some reads
pub record FilesStates : Type 0 where
  pub before : Source
  pub after : Source

abbrev pub source : Option FileMap → Bool → ℕ → Source
source held steady faults = record { told = record { held = held; steady = steady }; faults = faults }

abbrev pub files_states : Source → Source → FilesStates
files_states before after = record { before = before; after = after }

-- a read of the name may give these bytes: those that are told for it, and at a steady source no others
pub record MayGive (files : Told) (name bytes : Bytes) : Type 0 where
  pub told : IfSome (told_bytes files.held name) (λ held. bytes ≡ held)
  pub steady : IsTrue files.steady → IsSome (told_bytes files.held name)

-- a read of the name may fail: at a steady source only where no such file is held
abbrev pub MayFail : Told → Bytes → Type 0
MayFail files name = IsTrue files.steady → told_bytes files.held name ≡ None

-- the script may end so over this source; where the bytes of a file aren't told, some were read
abbrev pub Ends : {A : Type 0} → Told → Script A → Ending A → Type 0
Ends files (Script.gives x) ending = ending ≡ Ending.gave x
Ends files (Script.refuses line) ending = ending ≡ Ending.refused line
Ends files (Script.reads name next) ending =
    ((ending ≡ Ending.failed name) × MayFail files name)
    ⊎ ((bytes : Bytes) × MayGive files name bytes × Ends files (next bytes) ending)

-- how it ends over files that are all told: at the first name that it reaches and that isn't held, or before
abbrev pub ended : {A : Type 0} → FileMap → Script A → Ending A
ended held (Script.gives x) = Ending.gave x
ended held (Script.refuses line) = Ending.refused line
ended held (Script.reads name next) = option_map_or (λ bytes. ended held (next bytes)) (held name) (Ending.failed name)

-- the count of faults rose where a read failed, and stayed elsewhere
abbrev pub Counts : {A : Type 0} → FilesStates → Ending A → Type 0
Counts files (Ending.gave x) = files.after.faults ≡ files.before.faults
Counts files (Ending.refused line) = files.after.faults ≡ files.before.faults
Counts files (Ending.failed name) = Rose files.before.faults files.after.faults

-- the script came to this end between the two states of the source, which tells the same in both
pub record Came {A : Type 0} (files : FilesStates) (script : Script A) (ending : Ending A) : Type 0 where
  pub kept : files.after.told ≡ files.before.told
  pub ends : Ends files.before.told script ending
  pub counts : Counts files ending
