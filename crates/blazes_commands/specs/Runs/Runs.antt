-- The two commands that run a schedule, check by check, and what they find: an execution, with restarts where there are forgets.
use Rattle.std.specs.Prelude.{List}
use Rattle.bloom_eval.specs.declared.kind.ProgramKind.{ProgramKind}
use Rattle.inbox.specs.Executions.{Execution}
use Rattle.sched_net.specs.Steps.{StepLine}
use Rattle.sched_net.specs.ScheduleLines.{Line}
use Rattle.topo_forms.specs.Data.{Data}
use Rattle.topo_forms.specs.View.{View}
use Rattle.blazes_words.specs.Words.{RunFiles}
use Rattle.command_checks.specs.Reply.{Answer}
use Rattle.command_checks.specs.Script.{Script, ◌>>=◌}
use Rattle.blazes_commands.specs.Runs.Bench.{BenchStates}
use Rattle.blazes_commands.specs.Runs.Checks as check
use Rattle.blazes_commands.specs.Runs.Contents.{HasRun}

-- an execution of a topology over data, whose contents are to be written
pub record RunWork : Type 0 where
  pub view : View
  pub given : Data
  pub execution : Execution

abbrev pub run_work : View → Data → Execution → RunWork
run_work v given x = record { view = v; given = given; execution = x }

-- what follows on the checks of the files: the net is opened, and what happens makes an execution
abbrev pub running_by : Script Execution → List ProgramKind → View → Data → Script RunWork
running_by happens kinds v given = do
  opened ← check.opening v kinds
  x ← happens
  Script.gives (run_work v given x)

-- so under events
abbrev pub running : List ProgramKind → View → Data → List Line → Script RunWork
running kinds v given lines = running_by (check.execution v given lines) kinds v given

-- and so under steps
abbrev pub restarting : List ProgramKind → View → Data → List StepLine → Script RunWork
restarting kinds v given lines = running_by (check.restarted v given lines) kinds v given

-- the checks of `run`, in their order, where the bench has shells of these kinds
abbrev pub runs : List ProgramKind → RunFiles → Script RunWork
runs kinds files = do
  seen ← check.valid_topology files.topology
  given ← check.data_file seen files.given
  lines ← check.schedule_file files.schedule
  running kinds seen.view given lines

-- and those of `restart`
abbrev pub restarts : List ProgramKind → RunFiles → Script RunWork
restarts kinds files = do
  seen ← check.valid_topology files.topology
  given ← check.data_file seen files.given
  lines ← check.steps_file files.schedule
  restarting kinds seen.view given lines

-- the answer to what both find
abbrev pub SaysRun : RunWork → BenchStates → Answer → Type 0
SaysRun work bench answer = HasRun work.view work.given work.execution bench answer
