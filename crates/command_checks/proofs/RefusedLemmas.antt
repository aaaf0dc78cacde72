-- What a check refuses is refused with the line of its refusal.
use Rattle.std.proofs.Common.{◌≡◌, ◌∙◌, Some, Result, Err, sym, subst, ap}
use Rattle.report_lines.specs.declared.refusal.Refusal.{Refusal}
use Rattle.report_lines.specs.Refusals.{refusal_line}
use Rattle.command_checks.specs.Ran.{Gives, IsStopAt}
use Rattle.command_checks.specs.Script.{Bytes}
use Rattle.command_checks.specs.declared.stop.Stop.{Stop}
use Rattle.command_checks.specs.declared.stop.Stop.TheVariants.{Refused, Failed, NoMemory}

-- the stop of a check that gives the line of a refusal
pub refused_gives : {X A : Type 0} (view : X → A) (given : Result A Bytes) (refused : Refusal) (stop : Stop) → given ≡ Err (refusal_line refused) → IsStopAt (Some refused) stop → Gives view (Err stop) given
refused_gives view given refused (Refused line) is said = is ∙ ap (λ (b : Bytes). Err b) (sym said)
refused_gives view given refused (Failed name) is said = absurd said
refused_gives view given refused NoMemory is said = tt

-- want of memory stops each check
pub memory_gives : {X A : Type 0} (view : X → A) (given : Result A Bytes) (stop : Stop) → stop ≡ NoMemory → Gives view (Err stop) given
memory_gives view given stop is = subst (λ s. Gives view (Err s) given) (sym is) tt
