-- Labels are sound where they tell of every stream with a body what its replicas hold in any two complete executions.
use Rattle.std.specs.Prelude.{◌≡◌, ℕ, ◌<◌, false, IsTrue, Some, List, length, if◌then◌else◌, Bool, IsFalse}
use Rattle.blz_value.specs.Members.{Has}
use Rattle.bloom_forms.specs.declared.program.Program.{Program}
use Rattle.bloom_forms.specs.ProgramStep.{answer_of}
use Rattle.bloom_forms.specs.Step.{set_at}
use Rattle.topo_forms.specs.View.{View, origin_of, program_of, is_order, has_body, stream_replicas, comes_from, streams_from, goes_into, is_replicated}
use Rattle.topo_forms.specs.Data.{Data, IsData, Holds}
use Rattle.topo_forms.specs.Regions.{region_set, is_in_cycle}
use Rattle.label_rules.specs.declared.label.Label.{Label}
use Rattle.label_rules.specs.declared.label.Label.TheVariants.{Seal, Async, Run, Inst, Diverge}
use Rattle.label_walk.specs.Paths.{label_at, is_replicated_set}
use Rattle.inbox.specs.Wiring.{wiring_of}
use Rattle.inbox.specs.Executions.{Execution, contents}
use Rattle.confluence.specs.Complete.{IsRun, IsCompleted, contents_into}

-- ---- bodied streams

-- a component can be reached from another: it is that one, or a stream leads on to a component from which it can be reached
pub data Reaches (v : View) (to : ℕ) : ℕ → Type 0 where
  itself : Reaches v to to
  onward : (from : ℕ) (stream next : ℕ) → Has stream (streams_from v from) → IsTrue (goes_into v next stream) → Reaches v to next → Reaches v to from

-- each component upstream of a stream has a body, and so has its own, where it has one
abbrev pub IsBodied : View → (stream : ℕ) → Type 0
IsBodied v s = (c from : ℕ) → IsTrue (comes_from v c s) → Reaches v c from → IsTrue (has_body v from)

-- ---- labels

-- Seal or Async
abbrev pub IsSteady : Label → Type 0
IsSteady (Seal key) = Unit {0}
IsSteady Async = Unit {0}
IsSteady Run = ⊥
IsSteady Inst = ⊥
IsSteady Diverge = ⊥

-- a sending replica of a stream
abbrev pub IsSender : View → (stream replica : ℕ) → Type 0
IsSender v s i = i < stream_replicas v s

-- ---- the three parts

-- equal contents in all replicas of both executions
abbrev pub HaveEqualContents : View → Data → (x y : Execution) → (stream : ℕ) → Type 0
HaveEqualContents v d x y s = (i j : ℕ) → IsSender v s i → IsSender v s j → contents (wiring_of v) d x s i ≡ contents (wiring_of v) d y s j

-- where the stream comes from a component that isn't Order and has a body, the contents are the one-step answer to all that arrives
abbrev pub HasOneStepContents : View → Data → Execution → (stream : ℕ) → Type 0
HasOneStepContents v d x s = (c o i : ℕ) (program : Program) → origin_of v s ≡ Some (c, o) → program_of v c ≡ Some program → is_order v c ≡ false → IsSender v s i
    → contents (wiring_of v) d x s i ≡ set_at (answer_of program (contents_into (wiring_of v) d x c i)) o

-- the three parts of a stream with this label, over the executions that are chosen
pub record IsSoundStream (v : View) (d : Data) (Chosen : Execution → Type 0) (label : Label) (stream : ℕ) : Type 0 where
  pub schedules : IsSteady label → (x y : Execution) → Chosen x → Chosen y → HaveEqualContents v d x y stream
  pub one_step : IsSteady label → (x : Execution) → Chosen x → HasOneStepContents v d x stream
  pub replicas : label ≡ Run → (x : Execution) → Chosen x → HaveEqualContents v d x x stream

-- of all bodied streams, over all data that hold the dependencies
abbrev pub IsSound : View → (Chosen : Data → Execution → Type 0) → (labels : List Label) → Type 0
IsSound v Chosen labels = (d : Data) (s : ℕ) → IsData v d → Holds v d → s < length v.streams → IsBodied v s → IsSoundStream v d (Chosen d) (label_at labels s) s

-- the labels are sound over complete executions
abbrev pub Sound : View → (labels : List Label) → Type 0
Sound v labels = IsSound v (IsRun (wiring_of v)) labels

-- and over those with forgets
abbrev pub RestartSound : View → (labels : List Label) → Type 0
RestartSound v labels = IsSound v (IsCompleted (wiring_of v)) labels

-- ---- streams with or without a body

-- the component, or its cyclic region, is replicated
abbrev pub is_replicated_node : View → (component : ℕ) → Bool
is_replicated_node v c = if is_in_cycle v c then is_replicated_set v (region_set v c) else is_replicated v c

-- the three parts of a stream; the second also of a stream that is Run, where its component or region is replicated
pub record IsOpenSound (v : View) (d : Data) (labels : List Label) (s : ℕ) : Type 0 where
  pub schedules : IsSteady (label_at labels s) → (x y : Execution) → IsCompleted (wiring_of v) d x → IsCompleted (wiring_of v) d y → HaveEqualContents v d x y s
  pub one_step : IsSteady (label_at labels s) → (x : Execution) → IsCompleted (wiring_of v) d x → HasOneStepContents v d x s
  pub run_one_step : (c o : ℕ) → origin_of v s ≡ Some (c, o) → IsTrue (is_replicated_node v c) → label_at labels s ≡ Run → (x : Execution) → IsCompleted (wiring_of v) d x → HasOneStepContents v d x s
  pub replicas : label_at labels s ≡ Run → (x : Execution) → IsCompleted (wiring_of v) d x → HaveEqualContents v d x x s

-- ---- topologies without cycles

-- no component is in a cyclic region
abbrev pub IsAcyclic : View → Type 0
IsAcyclic v = (c : ℕ) → c < length v.components → IsFalse (is_in_cycle v c)
