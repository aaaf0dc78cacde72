-- What a script gave in the end, each of its checks let through.
use Rattle.std.proofs.Common.{◌≡◌, ◌≢◌, inl, inr, Option, None, Some, Result, Ok, Err, refl, sym, ap}
use Rattle.report_lines.specs.declared.refusal.Refusal.{Refusal}
use Rattle.command_checks.specs.FileChecks.{checked, line_of}
use Rattle.command_checks.specs.Ends.{Told, Source, files_states, Ends}
use Rattle.command_checks.specs.Ran.{IsStopAt, Stopped}
use Rattle.command_checks.specs.Script.{Bytes, Script, ◌>>=◌}
use Rattle.command_checks.specs.Script.Script.{gives, refuses, reads}
use Rattle.command_checks.specs.Script.Ending.{gave, refused}
use Rattle.command_checks.specs.declared.stop.Stop.{Stop}
use Rattle.command_checks.proofs.RefusedLemmas.{refused_gives}
use Rattle.command_checks.proofs.ScriptLemmas.{gives_ran, memory_stops}

-- two scripts one after another
pub then_gave : {A B : Type 0} (files : Told) (s : Script A) (next : A → Script B) (y : B) → Ends files (s >>= next) (gave y) → (x : A) × Ends files s (gave x) × Ends files (next x) (gave y)
then_gave files (gives x) next y ends = (x, refl, ends)
then_gave files (refuses line) next y ends = absurd (cc)
then_gave files (reads name after) next y (inl failing) = absurd (let bad = failing.0 in cc)
then_gave files (reads name after) next y (inr given) =
    let rest = then_gave files (after given.0) next y given.2 in
    (rest.0, inr (given.0, given.1, rest.1), rest.2)

-- a check
pub checked_gave : {A : Type 0} (files : Told) (r : Result A Bytes) (y : A) → Ends files (checked r) (gave y) → r ≡ Ok y
checked_gave files (Ok x) y ends = let same : y ≡ x = cc in ap (λ z. Ok z) (sym same)
checked_gave files (Err line) y ends = absurd (cc)

-- a check that is refused so, or lost to want of memory, stops the script
pub stops_at : {A : Type 0} (s : Source) (r : Result A Bytes) (refusal : Option Refusal) (stop : Stop) → (refusal ≢ None → r ≡ Err (line_of refusal)) → IsStopAt refusal stop → Stopped (files_states s s) stop (checked r)
stops_at s r None stop is said = memory_stops (files_states s s) (checked r) stop said
stops_at {A} s r (Some refusal) stop is said = gives_ran (λ (x : A). x) s (Err stop) r (refused_gives (λ (x : A). x) r refusal stop (is (λ bad. cc)) said)
