-- A steady source ends each script in one way, as over the files that it holds.
use Rattle.std.proofs.Common.{◌≡◌, inl, inr, true, Option, Some, None, IfSome, IsSome, refl, sym, subst}
use Rattle.std.specs.Option.{option_map_or}
use Rattle.blz_outside.specs.Files.{FileMap}
use Rattle.command_checks.specs.Script.{Bytes, Script, Ending}
use Rattle.command_checks.specs.Script.Script.{gives, refuses, reads}
use Rattle.command_checks.specs.Script.Ending.{failed}
use Rattle.command_checks.specs.Ends.{Ends, ended}

-- what is told where something is
told_one : (o : Option Bytes) (bytes : Bytes) → IfSome o (λ h. bytes ≡ h) → IsSome o → o ≡ Some bytes
told_one None bytes told some = cc
told_one (Some h) bytes told some = λ i. Some ((sym told) i)

pub steady_ends : {A : Type 0} (held : FileMap) (s : Script A) (e : Ending A) → Ends (record { held = Some held; steady = true }) s e → e ≡ ended held s
steady_ends held (gives x) e is = is
steady_ends held (refuses line) e is = is
steady_ends held (reads name after) e (inl failing) =
    subst (λ (o : Option Bytes). e ≡ option_map_or (λ b. ended held (after b)) o (failed name)) (sym (failing.1 refl)) failing.0
steady_ends held (reads name after) e (inr given) =
    subst (λ (o : Option Bytes). e ≡ option_map_or (λ b. ended held (after b)) o (failed name)) (sym (told_one (held name) given.0 given.1.told (given.1.steady refl))) (steady_ends held (after given.0) e given.2)
