-- What each command does, check by check, and what it has to write.
use Rattle.std.specs.Prelude.{◌≡◌, ℕ, List}
use Rattle.bloom_eval.specs.declared.kind.ProgramKind.{ProgramKind}
use Rattle.topo_forms.specs.Data.{Data}
use Rattle.topo_forms.specs.Valid.{Validated}
use Rattle.topo_forms.specs.View.{View}
use Rattle.label_rules.specs.declared.label.Label.{Label}
use Rattle.label_walk.specs.Labels.{AreLabels}
use Rattle.confluence.specs.Sound.{Sound, RestartSound}
use Rattle.inbox.specs.Events.{Event}
use Rattle.inbox.specs.Executions.{Execution}
use Rattle.inbox.specs.Wiring.{wiring_of}
use Rattle.coord_synth.specs.Laws.{AreCoordinated}
use Rattle.report_lines.specs.DeriveText.{derive_text}
use Rattle.report_lines.specs.LabelText.{label_text}
use Rattle.report_print.specs.SoakText.{soak_text}
use Rattle.sched_run.specs.Made.{LeavesNothing, execution_after}
use Rattle.sched_net.specs.ScheduleLines.{events_of, Line}
use Rattle.shard_route.specs.declared.sharded.Sharded.{Sharded}
use Rattle.sched_text.specs.Reading.{ReadsAs, event_reading}
use Rattle.sched_text.specs.Text.{schedule_text}
use Rattle.blazes_commands.specs.Runs.Bench.{BenchStates}
use Rattle.blazes_commands.specs.Runs.Contents.{HasRun, IsStatusOf}
use Rattle.blazes_commands.specs.Finds.Finds.{Witnessed, Explained, HasWitness, HasReasons, witnessing, explaining}
use Rattle.command_checks.specs.Reply.{Answer}
use Rattle.command_checks.specs.Script.{Script, ◌>>=◌}
use Rattle.blazes_commands.specs.Labels.Answers.{HasLabels, HasPlan, HasShards}
use Rattle.blazes_words.specs.Words.{Asked}
use Rattle.blazes_commands.specs.Checks as check
use Rattle.blazes_commands.specs.Labels.BuiltIn.{planned_count}
use Rattle.blazes_commands.specs.Soak.{tweets_data}
use Rattle.command_checks.specs.declared.status.Status.TheVariants.{Done}

-- what a command has found that no check refused
pub data Work : Type 0 where
  -- a topology whose streams are to be labelled
  labelled : Validated → Work
  -- a topology whose labels are to be derived
  derived : Validated → Work
  -- a topology whose plan is to be written
  planned : Validated → Work
  -- an execution of a topology over data, whose contents are to be written
  ran : View → Data → Execution → Work
  -- a schedule of a topology over data, by its events, which is to be written
  made : View → Data → List Event → Work
  -- an execution of so many batches, by the topology, its data and the events, which is to be summed up
  soaked : (batches : ℕ) → View → Data → List Event → Work
  -- a topology with copies of a component, which is to be written with their modules
  sharded : Sharded → Work
  -- two executions over the same data, whose first difference is to be written
  witnessed : Witnessed → Work
  -- a record that a schedule yields, which is to be written with the events that it needs
  explained : Explained → Work

-- what follows in `run` and `restart` on the checks of their files: the net is opened, and what happens makes an execution
abbrev pub running : List ProgramKind → View → Data → Script Execution → Script Work
running kinds v given happens = do
  opened ← check.opening v kinds
  x ← happens
  Script.gives (Work.ran v given x)

-- a net is opened, and a seed chooses the events, of which there is this work
abbrev pub making_for : (List Event → Work) → List ProgramKind → View → Data → (seed : ℕ) → Script Work
making_for work kinds v given seed = do
  opened ← check.opening v kinds
  events ← check.making v given seed
  Script.gives (work events)

-- what follows in `make` on the checks of its files
abbrev pub making : List ProgramKind → View → Data → (seed : ℕ) → Script Work
making kinds v given seed = making_for (Work.made v given) kinds v given seed

-- what follows in `soak` on the plan of the built-in word count, over so many batches
abbrev pub soaking : (batches : ℕ) → List ProgramKind → View → (seed : ℕ) → Script Work
soaking batches kinds v seed = do
  given ← check.checked (tweets_data v batches)
  making_for (Work.soaked batches v given) kinds v given seed

-- the checks of each command, in their order, where the bench has shells of these kinds
abbrev pub script : List ProgramKind → Asked → Script Work
script kinds (Asked.label topology) = do
  seen ← check.valid_topology topology
  Script.gives (Work.labelled seen)
script kinds (Asked.derive topology) = do
  seen ← check.valid_topology topology
  Script.gives (Work.derived seen)
script kinds (Asked.plan topology) = do
  seen ← check.valid_topology topology
  Script.gives (Work.planned seen)
script kinds (Asked.run files) = do
  seen ← check.valid_topology files.topology
  given ← check.data_file seen files.given
  lines ← check.schedule_file files.schedule
  running kinds seen.view given (check.execution seen.view given lines)
script kinds (Asked.restart files) = do
  seen ← check.valid_topology files.topology
  given ← check.data_file seen files.given
  lines ← check.steps_file files.schedule
  running kinds seen.view given (check.restarted seen.view given lines)
script kinds (Asked.make words) = do
  seen ← check.valid_topology words.topology
  given ← check.data_file seen words.given
  making kinds seen.view given words.seed
script kinds (Asked.soak words) = do
  v ← planned_count
  soaking words.count kinds v words.seed
script kinds (Asked.shard words) = do
  found ← check.with_modules words.topology
  copies ← check.sharding found words
  Script.gives (Work.sharded copies)
script kinds (Asked.witness files) = do
  found ← witnessing kinds files
  Script.gives (Work.witnessed found)
script kinds (Asked.why words) = do
  found ← explaining kinds words
  Script.gives (Work.explained found)

-- the answer is the text of a schedule that reads as these events, which leave nothing; it is Done where nothing is held either
pub record HasSchedule (v : View) (given : Data) (events : List Event) (answer : Answer) : Type 0 where
  pub lines : List Line
  pub text : answer.text ≡ schedule_text lines
  pub reads : ReadsAs event_reading answer.text lines
  pub are : events_of v lines ≡ events
  pub leaves : LeavesNothing (wiring_of v) given events
  pub status : IsStatusOf v given (execution_after (wiring_of v) given events) answer.status

-- the answer is Done with the summary of the execution under the labels that the rules give, and these hold in all complete executions; there no stream is worse than Run, and each of a component in mode Pass or Seal is Seal or Async
pub record HasSummary (batches : ℕ) (v : View) (given : Data) (x : Execution) (answer : Answer) : Type 0 where
  pub labels : List Label
  pub rules : AreLabels v labels
  pub sound : Sound v labels
  pub restarts : RestartSound v labels
  pub coordinated : AreCoordinated v
  pub says : answer ≡ record { status = Done; text = soak_text batches v labels given x }

-- so it is of the execution of these events, which leave nothing
pub record HasSoak (batches : ℕ) (v : View) (given : Data) (events : List Event) (answer : Answer) : Type 0 where
  pub leaves : LeavesNothing (wiring_of v) given events
  pub summary : HasSummary batches v given (execution_after (wiring_of v) given events) answer

-- the status and the text of what was found, and what the bench has then
abbrev pub Says : Work → BenchStates → Answer → Type 0
Says (Work.labelled seen) bench answer = HasLabels label_text seen.view answer
Says (Work.derived seen) bench answer = HasLabels derive_text seen.view answer
Says (Work.planned seen) bench answer = HasPlan seen answer
Says (Work.ran v given x) bench answer = HasRun v given x bench answer
Says (Work.made v given events) bench answer = HasSchedule v given events answer
Says (Work.soaked batches v given events) bench answer = HasSoak batches v given events answer
Says (Work.sharded copies) bench answer = HasShards copies answer
Says (Work.witnessed found) bench answer = HasWitness found answer
Says (Work.explained found) bench answer = HasReasons found answer
