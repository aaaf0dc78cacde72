-- What the generator of schedules refuses is refused with its line.
use Rattle.std.proofs.Common.{List, Result, Err, ap}
use Rattle.inbox.specs.Events.{Event}
use Rattle.inbox.specs.Wiring.{Wiring}
use Rattle.report_lines.specs.declared.refusal.MakeKind.TheVariants as make_kinds
use Rattle.report_lines.specs.declared.refusal.Refusal.TheVariants as refusal
use Rattle.sched_run.specs.Made.{AnswersSo}
use Rattle.sched_net.specs.declared.fault.MakeFault.{MakeFault}
use Rattle.sched_net.specs.declared.fault.MakeFault.TheVariants as make_faults
use Rattle.topo_forms.specs.Data.{Data}
use Rattle.command_checks.specs.Ran.{Gives, IsStopAt}
use Rattle.command_checks.specs.declared.stop.Stop.{Stop}
use Rattle.command_checks.proofs.RefusedLemmas.{memory_gives, refused_gives}
use Rattle.blazes_commands.specs.Checks as check

-- a schedule that can't be made
pub made_gives : (w : Wiring) (given : Data) (answer : Result (List Event) MakeFault) (fault : MakeFault) (stop : Stop) → AnswersSo w given answer (Err fault) → IsStopAt (check.make_refusal fault) stop
    → Gives (λ (events : List Event). events) (Err stop) (check.made answer)
made_gives w given answer make_faults.TooManyEvents stop is said =
    refused_gives (λ (events : List Event). events) (check.made answer) (refusal.Make check.first_too_many make_kinds.TooManyEvents) stop (ap check.made is) said
made_gives w given answer (make_faults.TooManyRows event) stop is said =
    refused_gives (λ (events : List Event). events) (check.made answer) (refusal.Make event make_kinds.TooManyRows) stop (ap check.made is) said
made_gives w given answer (make_faults.TooManyMessages event) stop is said =
    refused_gives (λ (events : List Event). events) (check.made answer) (refusal.Make event make_kinds.TooManyMessages) stop (ap check.made is) said
made_gives w given answer make_faults.NoMemory stop is said = memory_gives (λ (events : List Event). events) (check.made answer) stop said
