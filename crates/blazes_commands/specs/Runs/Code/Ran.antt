-- What the functions of a run return.
use Rattle.std.specs.Prelude.{◌≡◌, List, Result, Ok, Err}
use Rattle.bloom_eval.specs.declared.kind.ProgramKind.{ProgramKind}
use Rattle.inbox.specs.Events.{Step}
use Rattle.sched_net.specs.Net.{BooksStand, execution_in}
use Rattle.sched_net.specs.declared.books.Books.{Books}
use Rattle.sched_net.specs.declared.running.StepRefusal.{StepRefusal}
use Rattle.topo_forms.specs.Data.{Data}
use Rattle.topo_forms.specs.View.{View}
use Rattle.command_checks.specs.Ran.{answer_of, IsStopAt}
use Rattle.command_checks.specs.Reply.{Answer}
use Rattle.command_checks.specs.Script.{Bytes, Script, ◌>>=◌}
use Rattle.command_checks.specs.declared.reply.Reply.{Reply}
use Rattle.command_checks.specs.declared.stop.Stop.{Stop}
use Rattle.command_checks.specs.declared.stop.Stop.TheVariants.{NoMemory}
use Rattle.blazes_commands.specs.Runs.Checks as check
use Rattle.blazes_commands.specs.Runs.Contents.{HasContents}
use Rattle.blazes_commands.specs.Runs.Runs.{RunWork, restarting, running}

-- the contents of whatever execution the books stand for
abbrev pub ReportsBooks : View → Books → Answer → Type 0
ReportsBooks v b answer = (given : Data) (steps : List Step) (stand : BooksStand v given steps b) → HasContents v given (execution_in stand) answer

-- the outcome of a run to whose books the steps were so applied
abbrev pub IsOutcomeOf : View → Books → Result (Unit {0}) StepRefusal → Result Reply Stop → Type 0
IsOutcomeOf v b (Ok x) (Ok reply) = ReportsBooks v b (answer_of reply)
IsOutcomeOf v b (Ok x) (Err stop) = stop ≡ NoMemory
IsOutcomeOf v b (Err refused) (Ok reply) = ⊥
IsOutcomeOf v b (Err refused) (Err stop) = IsStopAt (check.event_refusal refused.line refused.fault) stop

-- a run of a topology over its data, from the file of the schedule on
abbrev pub running_file : List ProgramKind → View → Data → Bytes → Script RunWork
running_file kinds v given name = check.schedule_file name >>= running kinds v given

-- and so with restarts
abbrev pub restarting_file : List ProgramKind → View → Data → Bytes → Script RunWork
restarting_file kinds v given name = check.steps_file name >>= restarting kinds v given
