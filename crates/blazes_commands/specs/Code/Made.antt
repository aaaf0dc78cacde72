-- What the functions of `make` return.
use Rattle.std.specs.Prelude.{◌≡◌, List, Result, Ok, Err}
use Rattle.topo_forms.specs.View.{View}
use Rattle.inbox.specs.Events.{Event}
use Rattle.sched_run.specs.Making.{IsTextOf}
use Rattle.sched_net.specs.declared.books.Books.{Books}
use Rattle.sched_net.specs.declared.fault.MakeFault.{MakeFault}
use Rattle.blazes_commands.specs.Checks.{make_refusal}
use Rattle.command_checks.specs.Reply.{Answer}
use Rattle.command_checks.specs.Ran.{answer_of, IsStopAt}
use Rattle.blazes_commands.specs.Runs.Contents.{TellsStatus}
use Rattle.command_checks.specs.declared.reply.Reply.{Reply}
use Rattle.command_checks.specs.declared.stop.Stop.{Stop}
use Rattle.command_checks.specs.declared.stop.Stop.TheVariants.{NoMemory}

-- the text of a schedule with these events, under the status of whatever execution the books stand for
pub record PrintsBooks (v : View) (b : Books) (events : List Event) (answer : Answer) : Type 0 where
  pub text : IsTextOf v events answer.text
  pub status : TellsStatus v b answer.status

-- the outcome of a net that made events of which the answer says this, or couldn't
abbrev pub IsMade : (List Event → Answer → Type 0) → Result (List Event) MakeFault → Result Reply Stop → Type 0
IsMade Said (Ok events) (Ok reply) = Said events (answer_of reply)
IsMade Said (Ok events) (Err stop) = stop ≡ NoMemory
IsMade Said (Err fault) (Ok reply) = ⊥
IsMade Said (Err fault) (Err stop) = IsStopAt (make_refusal fault) stop

-- the outcome of one that has these books
abbrev pub IsMadeOf : View → Books → Result (List Event) MakeFault → Result Reply Stop → Type 0
IsMadeOf v b result outcome = IsMade (PrintsBooks v b) result outcome
