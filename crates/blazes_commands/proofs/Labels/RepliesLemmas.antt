-- A part of the program that hands on a stop replies so, whatever it says of what its checks give.
use Rattle.std.proofs.Common.{◌≡◌, Ok, Err, Result, sym, subst}
use Rattle.std.specs.Result.{IsErrAnd}
use Rattle.command_checks.specs.Ends.{FilesStates}
use Rattle.command_checks.specs.Ran.{Stopped}
use Rattle.command_checks.specs.Reply.{Answer}
use Rattle.command_checks.specs.Script.{Script}
use Rattle.command_checks.specs.declared.reply.Reply.{Reply}
use Rattle.command_checks.specs.declared.stop.Stop.{Stop}
use Rattle.command_checks.specs.declared.stop.Stop.TheVariants.{NoMemory}
use Rattle.blazes_commands.specs.Labels.Replies.{RepliesOf}

-- a part whose checks stop
pub stop_replied : {A : Type 0} (Said : A → Answer → Type 0) (files : FilesStates) (s : Script A) (result : Result Reply Stop) (stop : Stop)
    → IsErrAnd result (λ given. given ≡ stop) → Stopped files stop s → RepliesOf Said files result s
stop_replied Said files s (Ok reply) stop is stopped = absurd is
stop_replied Said files s (Err given) stop is stopped = subst (λ given. Stopped files given s) (sym is) stopped

-- a part that is lost to want of memory
pub lost_replied : {A : Type 0} (Said : A → Answer → Type 0) (files : FilesStates) (s : Script A) (result : Result Reply Stop) → IsErrAnd result (λ stop. stop ≡ NoMemory) → RepliesOf Said files result s
lost_replied Said files s result is = stop_replied Said files s result NoMemory is tt
