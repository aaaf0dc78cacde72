-- What `witness` and `why` do, check by check, and what they have to write.
use Rattle.std.specs.Prelude.{◌≡◌, ℕ, ◌<◌, IsTrue, true, false, List, length, Option, None, Some}
use Rattle.std.specs.List.{remove}
use Rattle.bloom_eval.specs.declared.kind.ProgramKind.{ProgramKind}
use Rattle.topo_forms.specs.Data.{Data}
use Rattle.topo_forms.specs.View.{View}
use Rattle.label_rules.specs.declared.label.Label.{Label}
use Rattle.label_walk.specs.Labels.{AreLabels}
use Rattle.label_walk.specs.Paths.{label_at}
use Rattle.confluence.specs.Sound.{IsBodied, IsSteady}
use Rattle.inbox.specs.Executions.{Execution}
use Rattle.sched_net.specs.ScheduleLines.{Line}
use Rattle.sched_net.specs.Reading.{is_complete}
use Rattle.witness_check.specs.Difference.{difference, snapshot}
use Rattle.witness_check.specs.declared.difference.Difference.{Difference}
use Rattle.why_trace.specs.Passes.{IsSublist}
use Rattle.why_trace.specs.Trim.{Wanted, trim, yields}
use Rattle.blazes_words.specs.Words.{WitnessFiles, WhyWords}
use Rattle.command_checks.specs.Reply.{Answer}
use Rattle.command_checks.specs.Script.{Script, ◌>>=◌}
use Rattle.command_checks.specs.declared.status.Status.TheVariants.{Done}
use Rattle.blazes_commands.specs.Runs.Bench.{BenchStates}
use Rattle.blazes_commands.specs.Finds.Checks as check
use Rattle.blazes_commands.specs.Finds.WhyText.{why_text}
use Rattle.blazes_commands.specs.Finds.WitnessText.{witness_text}

-- ---- two executions

-- two executions of a topology over the same data
pub record Witnessed : Type 0 where
  pub view : View
  pub given : Data
  pub first : Execution
  pub second : Execution

-- a net is opened, and events happen
abbrev pub run_of : List ProgramKind → View → Data → List Line → Script Execution
run_of kinds v given lines = do
  opened ← check.opening v kinds
  check.execution v given lines

-- what follows in `witness` on the checks of its files: the events of both schedules happen, each from the beginning
abbrev pub comparing : List ProgramKind → View → Data → (first second : List Line) → Script Witnessed
comparing kinds v given first second = do
  x ← run_of kinds v given first
  y ← check.second_execution v given second
  Script.gives (record { view = v; given = given; first = x; second = y })

-- the checks of `witness`, in their order, where the bench has shells of these kinds
abbrev pub witnessing : List ProgramKind → WitnessFiles → Script Witnessed
witnessing kinds files = do
  seen ← check.valid_topology files.topology
  given ← check.data_file seen files.given
  first ← check.schedule_file files.first
  second ← check.second_file files.second
  comparing kinds seen.view given first second

-- where two executions are said to be complete, the stream in which they differ is no bodied one that the rules label Seal or Async
abbrev pub SparesSteady : View → Data → (x y : Execution) → Option Difference → Type 0
SparesSteady v given x y None = Unit {0}
SparesSteady v given x y (Some d) = IsTrue (is_complete v given x) → IsTrue (is_complete v given y)
    → (labels : List Label) → AreLabels v labels → IsBodied v d.stream → ¬ IsSteady (label_at labels d.stream)

-- the answer is Done with the first difference of two executions, if any, and whether each is complete
pub record HasWitness (found : Witnessed) (answer : Answer) : Type 0 where
  pub says : answer ≡ record { status = Done; text = witness_text found.view found.given found.first found.second }
  pub spares : SparesSteady found.view found.given found.first found.second (difference (snapshot found.view found.given found.first) (snapshot found.view found.given found.second))

-- ---- a record

-- the events of a schedule over data, and a record that they yield
pub record Explained : Type 0 where
  pub view : View
  pub given : Data
  pub lines : List Line
  pub wanted : Wanted

-- the events happen, and the record that the words name is looked for
abbrev pub looking : List ProgramKind → View → Data → List Line → WhyWords → Script Wanted
looking kinds v given lines words = do
  x ← run_of kinds v given lines
  check.wanted v given x words

-- what follows in `why` on the checks of its files
abbrev pub finding : List ProgramKind → View → Data → List Line → WhyWords → Script Explained
finding kinds v given lines words = do
  wanted ← looking kinds v given lines words
  Script.gives (record { view = v; given = given; lines = lines; wanted = wanted })

-- the checks of `why`, in their order, where the bench has shells of these kinds
abbrev pub explaining : List ProgramKind → WhyWords → Script Explained
explaining kinds words = do
  seen ← check.valid_topology words.topology
  given ← check.data_file seen words.given
  lines ← check.few_events_file words.schedule
  finding kinds seen.view given lines words

-- events that yield the record, of which none can be left out alone, are a part of the schedule, in its order
pub record AreReasons (found : Explained) (reasons : List Line) : Type 0 where
  pub yielded : yields found.view found.given found.wanted reasons ≡ true
  pub needed : (k : ℕ) → k < length reasons → yields found.view found.given found.wanted (remove reasons k) ≡ false
  pub part : IsSublist reasons found.lines

-- the answer is Done with the record and the events that it needs
pub record HasReasons (found : Explained) (answer : Answer) : Type 0 where
  pub says : answer ≡ record { status = Done; text = why_text found.view found.wanted (trim found.view found.given found.wanted found.lines) }
  pub reasons : AreReasons found (trim found.view found.given found.wanted found.lines)

-- ---- replies

-- the answers to what the two commands find; the bench keeps its shells, and no more is said of it
abbrev pub SaysWitness : Witnessed → BenchStates → Answer → Type 0
SaysWitness found bench answer = HasWitness found answer

abbrev pub SaysReasons : Explained → BenchStates → Answer → Type 0
SaysReasons found bench answer = HasReasons found answer
