-- What the functions of `soak` return.
use Rattle.std.specs.Prelude.{ℕ, List, Result}
use Rattle.topo_forms.specs.Data.{Data}
use Rattle.topo_forms.specs.View.{View}
use Rattle.inbox.specs.Events.{Step, Event}
use Rattle.sched_net.specs.Net.{BooksStand, execution_in}
use Rattle.sched_net.specs.declared.books.Books.{Books}
use Rattle.sched_net.specs.declared.fault.MakeFault.{MakeFault}
use Rattle.command_checks.specs.Reply.{Answer}
use Rattle.blazes_commands.specs.Commands.{HasSummary}
use Rattle.blazes_commands.specs.Code.Made.{IsMade}
use Rattle.command_checks.specs.declared.reply.Reply.{Reply}
use Rattle.command_checks.specs.declared.stop.Stop.{Stop}

-- the summary of whatever execution the books stand for
abbrev pub SumsBooks : (batches : ℕ) → View → Books → Answer → Type 0
SumsBooks batches v b answer = (given : Data) (steps : List Step) (stand : BooksStand v given steps b) → HasSummary batches v given (execution_in stand) answer

-- the outcome of a net that has these books and made a schedule, or couldn't
abbrev pub IsSummaryOf : (batches : ℕ) → View → Books → Result (List Event) MakeFault → Result Reply Stop → Type 0
IsSummaryOf batches v b result outcome = IsMade (λ events answer. SumsBooks batches v b answer) result outcome
