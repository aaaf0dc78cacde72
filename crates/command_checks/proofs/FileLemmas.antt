-- The three ways in which the read of a file ends.
use Rattle.std.proofs.Common.{◌≡◌, ◌<◌, ◌≤◌, ◌+◌, inl, inr, ℕ, Bool, if◌then◌else◌, length, replicate, Option, Some, None, Ok, Err, OnSome, IfSome, IfNone, IsErr, IsSome, IsTrue, refl, sym, subst, arith}
use Rattle.std.proofs.lemmas.Bool.{lt-ltb, le-ltb}
use Rattle.std.proofs.lemmas.List.{length-replicate}
use Rattle.blz_outside.specs.Files.{OnWhole, OnMore, OnFailed, told_bytes}
use Rattle.blz_outside.specs.Counts.{Rose}
use Rattle.blz_outside.specs.declared.files.End.{End}
use Rattle.blz_outside.specs.declared.files.End.TheVariants.{Whole, More}
use Rattle.blz_outside.specs.declared.files.ReadFail.{ReadFail}
use Rattle.blz_outside.specs.declared.files.ReadFail.TheVariants.{Failed as ReadFailed}
use Rattle.command_checks.specs.Script.{Bytes, Ending}
use Rattle.command_checks.specs.Script.Script.{gives, refuses}
use Rattle.command_checks.specs.Script.Ending.{gave, refused, failed}
use Rattle.command_checks.specs.Ends.{Told, Source, files_states, Came, Ends, MayFail}
use Rattle.report_lines.specs.declared.refusal.Refusal.TheVariants.{TooLong}
use Rattle.report_lines.specs.Refusals.{refusal_line}
use Rattle.command_checks.specs.FileChecks.{file}
use Rattle.command_checks.specs.Ran.{IsFailure, IsRefused, Stopped}
use Rattle.command_checks.specs.declared.stop.Stop.{Stop}
use Rattle.command_checks.specs.declared.stop.Stop.TheVariants.{Refused, Failed, NoMemory}

-- the line of a file above its limit
abbrev too_long : Bytes → Bytes
too_long name = refusal_line (TooLong name)

-- what follows on bytes that are or aren't too long
abbrev LengthEnds : Told → Bytes → Bytes → Ending Bytes → Bool → Type 0
LengthEnds files name bytes e longer = Ends files (if longer then refuses (too_long name) else gives bytes) e

-- bytes that a read may have given: those that are told, else a run of zeros
longer_bytes : (o : Option Bytes) (steady : Bool) (most : ℕ) → IfSome o (λ bytes. most < length bytes) → (IsTrue steady → IsSome o)
    → (bytes : Bytes) × IfSome o (λ held. bytes ≡ held) × (IsTrue steady → IsSome o) × (most < length bytes)
longer_bytes None steady most longer some =
    (replicate (most + 1) 0, tt, some, subst (λ n. most < n) (sym (length-replicate (most + 1) 0)) (omega arith))
longer_bytes (Some held) steady most longer some = (held, refl, some, longer)

-- a file above the limit
pub file_longer : (a b : Source) (most : ℕ) (name : Bytes) → b.told ≡ a.told → b.faults ≡ a.faults
    → IfSome (told_bytes a.told.held name) (λ bytes. most < length bytes) → (IsTrue a.told.steady → IsSome (told_bytes a.told.held name))
    → Came (files_states a b) (file most name) (refused (too_long name))
file_longer a b most name kept quiet longer some =
    let found = longer_bytes (told_bytes a.told.held name) a.told.steady most longer some in
    record {
      kept = kept;
      ends = inr (
        found.0,
        record { told = found.1; steady = found.2 },
        subst (LengthEnds a.told name found.0 (refused (too_long name))) (sym (lt-ltb most (length found.0) found.3)) refl,
      );
      counts = quiet;
    }

-- the stop at such a file
pub stop_longer : (a b : Source) (most : ℕ) (name : Bytes) (stop : Stop) → IsRefused (refusal_line (TooLong name)) stop → b.told ≡ a.told → b.faults ≡ a.faults
    → IfSome (told_bytes a.told.held name) (λ bytes. most < length bytes) → (IsTrue a.told.steady → IsSome (told_bytes a.told.held name))
    → Stopped (files_states a b) stop (file most name)
stop_longer a b most name (Refused line) is kept quiet longer some =
    subst (λ said. Came (files_states a b) (file most name) (refused said)) (sym is) (file_longer a b most name kept quiet longer some)
stop_longer a b most name (Failed other) is kept quiet longer some = absurd is
stop_longer a b most name NoMemory is kept quiet longer some = tt

-- what is told after a read that didn't fail, where nothing told means a failure
pub told_after : (o : Option Bytes) (end : End) → IfNone o (IsErr {T = End} {E = ReadFail} (Ok end)) → IsSome o
told_after None end bad = cc
told_after (Some bytes) end bad = refl

-- the bytes that are told of a longer file
pub more_told : (o : Option Bytes) (most : ℕ) (end : End) → end ≡ More → OnMore (Ok end) (IfSome o (λ bytes. most < length bytes)) → IfSome o (λ bytes. most < length bytes)
more_told o most end is longer = subst (λ end. OnMore (Ok end) (IfSome o (λ bytes. most < length bytes))) is longer

-- ---- a file within the limit

-- it comes with its bytes
pub file_whole : (a b : Source) (most : ℕ) (name bytes : Bytes) → b.told ≡ a.told → b.faults ≡ a.faults → length bytes ≤ most
    → IfSome (told_bytes a.told.held name) (λ held. bytes ≡ held) → (IsTrue a.told.steady → IsSome (told_bytes a.told.held name))
    → Came (files_states a b) (file most name) (gave bytes)
file_whole a b most name bytes kept quiet few told some = record {
  kept = kept;
  ends = inr (
    bytes,
    record { told = told; steady = some },
    subst (LengthEnds a.told name bytes (gave bytes)) (sym (le-ltb most (length bytes) few)) refl,
  );
  counts = quiet;
}

-- what a read says at this end
pub on_whole : (end : End) (P : Type 0) → end ≡ Whole → OnWhole (Ok end) P → P
on_whole end P is fact = subst (λ (e : End). OnWhole (Ok e) P) is fact

-- ---- a read that failed

pub on_failed : (fault : ReadFail) (P : Type 0) → fault ≡ ReadFailed → OnFailed (Err fault) P → P
on_failed fault P is fact = subst (λ (f : ReadFail). OnFailed (Err f) P) is fact

-- nothing is told of the name
pub none_told : (o : Option Bytes) (fault : ReadFail) → fault ≡ ReadFailed → OnSome o (OnFailed (Err fault) ⊥) → o ≡ None
none_told None fault is bad = refl
none_told (Some bytes) fault is bad = absurd (on_failed fault ⊥ is bad)

-- the stop there
pub stop_failed : (a b : Source) (most : ℕ) (name : Bytes) (stop : Stop) → IsFailure name stop → b.told ≡ a.told → Rose a.faults b.faults → MayFail a.told name
    → Stopped (files_states a b) stop (file most name)
stop_failed a b most name (Refused line) is kept rose may = absurd is
stop_failed a b most name (Failed other) is kept rose may =
    subst (λ (n : Bytes). Came (files_states a b) (file most name) (failed n)) (sym is) (record { kept = kept; ends = inl (refl, may); counts = rose })
stop_failed a b most name NoMemory is kept rose may = tt
