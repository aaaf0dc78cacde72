-- The laws of labels and executions, each in one word: of every valid topology, all data and all steps.
use Rattle.std.specs.Prelude.{◌≡◌, ℕ, Ok, List, length, ◌<◌, IsTrue, Some, ◌≤◌, ◌⊎◌, []}
use Rattle.blz_value.specs.Record.{Row}
use Rattle.blz_value.specs.declared.attrs.Attrs.{Attrs}
use Rattle.blz_value.specs.Closure.{within}
use Rattle.bloom_forms.specs.declared.program.Program.{Program}
use Rattle.bloom_forms.specs.declared.program.Program.TheVariants.{Module}
use Rattle.bloom_forms.specs.Form.{Accepted}
use Rattle.topo_forms.specs.Data.{Data, IsData, Holds}
use Rattle.topo_forms.specs.View.{View, program_of, End, is_replicated, stream_attrs}
use Rattle.topo_forms.specs.Carried.{carries}
use Rattle.topo_forms.specs.Regions.{region_set}
use Rattle.topo_forms.specs.Valid.{IsValid, Validated, IsValidated}
use Rattle.label_rules.specs.declared.label.Label.{Label}
use Rattle.label_rules.specs.declared.label.Label.TheVariants.{Seal, Async, Run}
use Rattle.label_rules.specs.Label.{severity}
use Rattle.label_walk.specs.Paths.{label_at, region_inputs, is_replicated_set}
use Rattle.label_walk.specs.Labels.{AreLabels}
use Rattle.inbox.specs.Wiring.{wiring_of, carried_places}
use Rattle.inbox.specs.Executions.{Execution, execution_of, emitted_list}
use Rattle.inbox.specs.Events.{Step}
use Rattle.messages.specs.Messages.{Batch}
use Rattle.confluence.specs.Complete.{IsCompleted}
use Rattle.confluence.specs.LabelMeaning.{IsOutside, IsProtected, HasGoodPaths, IsGuarded, IsInCycle, HasGoodInputs, HasConfluentPaths}
use Rattle.confluence.specs.Sound.{IsSteady, HaveEqualContents, HasOneStepContents, IsBodied, IsSender, Sound, RestartSound, IsOpenSound, IsAcyclic}
use Rattle.confluence.specs.Honest.{IsHonest}
use Rattle.confluence.specs.Partitions.{IsSealing, RulesByPartitions, OutputsByPartitions}

-- ---- what a label says

-- a stream that is Seal of a key carries that key, and has its columns
abbrev pub SealMeansCarries : Type 0
SealMeansCarries = (v : View) (labels : List Label) (stream : ℕ) (key : Attrs) → IsValid v → AreLabels v labels →
    stream < length v.streams → label_at labels stream ≡ Seal key →
    (carries v stream ≡ Some key) × IsTrue (within key.bits (stream_attrs v stream).bits)

-- where an output is Seal or Async, each path is, and no path has an O note unless the output is protected
abbrev pub GoodPathsOfAsync : Type 0
GoodPathsOfAsync = (v : View) (labels : List Label) (stream : ℕ) (output : End) → IsValid v → AreLabels v labels →
    IsOutside v stream output → severity (label_at labels stream) ≤ severity Async →
    HasGoodPaths v labels output Async

-- where an output at several replicas is Run, each path is Run or better, and no path has an O note unless the output is protected
abbrev pub GoodPathsOfRun : Type 0
GoodPathsOfRun = (v : View) (labels : List Label) (stream : ℕ) (output : End) → IsValid v → AreLabels v labels →
    IsOutside v stream output → IsTrue (is_replicated v output.0) → label_at labels stream ≡ Run →
    HasGoodPaths v labels output Run

-- a protected output is guarded
abbrev pub ProtectedMeansGuarded : Type 0
ProtectedMeansGuarded = (v : View) (labels : List Label) (output : End) → IsValid v → AreLabels v labels →
    IsProtected v labels output → IsGuarded v output

-- where a cyclic region is Seal or Async, no stream leads into it from outside, or each is Seal or Async and no note is O
abbrev pub GoodInputsOfAsync : Type 0
GoodInputsOfAsync = (v : View) (labels : List Label) (stream : ℕ) (output : End) → IsValid v → AreLabels v labels →
    IsInCycle v stream output → severity (label_at labels stream) ≤ severity Async →
    (region_inputs v (region_set v output.0) ≡ []) ⊎ HasGoodInputs v labels (region_set v output.0) Async

-- where a cyclic region at several replicas is Run, each stream from outside is Run or better and no note is O
abbrev pub GoodInputsOfRun : Type 0
GoodInputsOfRun = (v : View) (labels : List Label) (stream : ℕ) (output : End) → IsValid v → AreLabels v labels →
    IsInCycle v stream output → IsTrue (is_replicated_set v (region_set v output.0)) → label_at labels stream ≡ Run →
    HasGoodInputs v labels (region_set v output.0) Run

-- ---- seals tell the truth

-- in every history over data that hold the dependencies, complete or not, each emitted list of a stream that carries a key is honest
abbrev pub HonestLaw : Type 0
HonestLaw = (v : View) (d : Data) (steps : List Step) (x : Execution) (s i : ℕ) (places : List ℕ)
    → IsValid v → IsData v d → Holds v d → execution_of (wiring_of v) d steps ≡ Ok x
    → s < length v.streams → IsSender v s i → carried_places v s ≡ Some places
    → IsHonest places (emitted_list (wiring_of v) d x s i)

-- the rows of a rule of a module go by partitions
abbrev pub RulesLaw : Type 0
RulesLaw = (v : View) (d : Data) (x : Execution) (c j : ℕ) (key : Attrs) (batches : List Batch) (a : Accepted) (value : Row) → IsSealing v d x c j key batches → program_of v c ≡ Some (Module a) → RulesByPartitions v d x c j key a batches value

-- so do those of an output of any program
abbrev pub OutputsLaw : Type 0
OutputsLaw = (v : View) (d : Data) (x : Execution) (c j : ℕ) (key : Attrs) (batches : List Batch) (program : Program) (value : Row) → IsSealing v d x c j key batches → program_of v c ≡ Some program → OutputsByPartitions v d x c j key program batches value

-- ---- contents

-- in a complete history the contents of an output outside cycles that is protected, or to which no path has an O note, are the one-step answer to all that arrives
abbrev pub DeterminedOutputs : Type 0
DeterminedOutputs = (v : View) (labels : List Label) (d : Data) (s : ℕ) (output : End) (x : Execution) → IsValid v → AreLabels v labels → IsData v d → Holds v d
    → IsOutside v s output → IsProtected v labels output ⊎ HasConfluentPaths v output → IsCompleted (wiring_of v) d x → HasOneStepContents v d x s

-- ---- labels are sound

-- the labels of every valid topology are sound
abbrev pub RegionLaw : Type 0
RegionLaw = (v : View) (labels : List Label) → IsValid v → AreLabels v labels → Sound v labels

-- without a cyclic region a bodied stream that is Seal or Async has equal contents in all replicas of any two complete histories
abbrev pub RestartLaw : Type 0
RestartLaw = (v : View) (labels : List Label) (d : Data) (s : ℕ) (x y : Execution)
    → IsValid v → IsAcyclic v → AreLabels v labels → IsData v d → Holds v d
    → s < length v.streams → IsBodied v s → IsSteady (label_at labels s)
    → IsCompleted (wiring_of v) d x → IsCompleted (wiring_of v) d y → HaveEqualContents v d x y s

-- all three parts, over all complete histories, with cyclic regions or without
abbrev pub StrongRestartLaw : Type 0
StrongRestartLaw = (v : View) (labels : List Label) → IsValid v → AreLabels v labels → RestartSound v labels

-- all three parts over data that hold the dependencies and all complete histories, of all streams, bodied or not
abbrev pub OpenRegionLaw : Type 0
OpenRegionLaw = (v : View) (labels : List Label) (d : Data) (s : ℕ) → IsValid v → AreLabels v labels → IsData v d → Holds v d → s < length v.streams → IsOpenSound v d labels s

-- what validation has accepted has sound labels
abbrev pub ValidatedLabelsAreSound : Type 0
ValidatedLabelsAreSound = (modules : List Accepted) (seen : Validated) (labels : List Label) → IsValidated modules seen → AreLabels seen.view labels → Sound seen.view labels

-- so it is over complete histories
abbrev pub ValidatedLabelsSurviveRestarts : Type 0
ValidatedLabelsSurviveRestarts = (modules : List Accepted) (seen : Validated) (labels : List Label) → IsValidated modules seen → AreLabels seen.view labels → RestartSound seen.view labels
