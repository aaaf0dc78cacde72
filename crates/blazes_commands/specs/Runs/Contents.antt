-- What is written of an execution: its contents under the status of its end, and what the bench has then.
use Rattle.std.specs.Prelude.{◌≡◌, ◌⊎◌, ℕ, List, take}
use Rattle.bloom_forms.specs.declared.program.Program.{Program}
use Rattle.inbox.specs.Completeness.{IsComplete}
use Rattle.inbox.specs.Events.{Step}
use Rattle.inbox.specs.Executions.{Execution, contents}
use Rattle.inbox.specs.Folds.{fold_rows}
use Rattle.inbox.specs.OrderReplicas.{most_taken}
use Rattle.inbox.specs.Wiring.{wiring_of}
use Rattle.report_print.specs.RunText.{run_text}
use Rattle.sched_net.specs.Net.{BooksStand, execution_in}
use Rattle.sched_net.specs.declared.books.Books.{Books}
use Rattle.sched_net.specs.Reading.{IsOrdered}
use Rattle.topo_forms.specs.Data.{Data}
use Rattle.topo_forms.specs.View.{View}
use Rattle.command_checks.specs.Reply.{Answer}
use Rattle.command_checks.specs.declared.status.Status.{Status}
use Rattle.command_checks.specs.declared.status.Status.TheVariants.{Done, Incomplete}
use Rattle.blazes_commands.specs.Runs.Bench.{BenchStates, HasInstances}

-- Done where an execution is complete, and else Incomplete
abbrev pub IsStatusOf : View → Data → Execution → Status → Type 0
IsStatusOf v given x status = ((status ≡ Done) × IsComplete (wiring_of v) given x) ⊎ ((status ≡ Incomplete) × ¬ IsComplete (wiring_of v) given x)

-- the status of whatever execution the books stand for
abbrev pub TellsStatus : View → Books → Status → Type 0
TellsStatus v b status = (given : Data) (steps : List Step) (stand : BooksStand v given steps b) → IsStatusOf v given (execution_in stand) status

-- what each replica of an Order component has put out is what its program gives over a beginning of the log, as far as the longest of its lives came
abbrev pub HasOrderReplicas : View → Data → Execution → Type 0
HasOrderReplicas v given x = (stream replica component output : ℕ) (program : Program) → IsOrdered v stream replica component output program
    → contents (wiring_of v) given x stream replica ≡ fold_rows program (take (most_taken (x.lives component replica)) (x.logs component)) output

-- the answer is the text of the execution, under this status
pub record HasContents (v : View) (given : Data) (x : Execution) (answer : Answer) : Type 0 where
  pub text : answer.text ≡ run_text v given x
  pub status : IsStatusOf v given x answer.status
  pub ordered : HasOrderReplicas v given x

-- and the bench ends with the shells of its instances
pub record HasRun (v : View) (given : Data) (x : Execution) (bench : BenchStates) (answer : Answer) : Type 0 where
  pub contents : HasContents v given x answer
  pub instances : HasInstances v x bench
