-- Of each partition an instance in mode Seal sees nothing, or all at once: its rows over the records of the partition are none, or those of one timestep with all of them.
use Rattle.std.specs.Prelude.{ℕ, ◌≡◌, ◌<◌, ◌^◌, ◌⊎◌, ◌↔◌, true, false, IsTrue, Option, Some, List, [], ◌∷◌, map, length}
use Rattle.blz_value.specs.Members.{Has}
use Rattle.blz_value.specs.Record.{Row}
use Rattle.blz_value.specs.declared.attrs.Attrs.{Attrs}
use Rattle.blz_value.specs.Bits.{members}
use Rattle.bloom_forms.specs.declared.program.Program.{Program}
use Rattle.bloom_forms.specs.declared.program.Program.TheVariants.{Module}
use Rattle.bloom_forms.specs.Form.{RuleForm, Accepted}
use Rattle.bloom_forms.specs.Step.{Sets, set_at}
use Rattle.bloom_forms.specs.declared.note.Note.{Note}
use Rattle.bloom_forms.specs.Annotation.{note_of, rule_use}
use Rattle.bloom_forms.specs.Given.{is_w}
use Rattle.bloom_forms.specs.Classes.{of_class}
use Rattle.bloom_forms.specs.Runs.{query_over, output_over, at_once}
use Rattle.bloom_forms.specs.declared.mode.Mode.TheVariants.{Seal}
use Rattle.topo_forms.specs.Carried.{port_carries}
use Rattle.topo_forms.specs.Data.{Data, Holds}
use Rattle.topo_forms.specs.Messages.{row}
use Rattle.topo_forms.specs.View.{View, component_at, mode_of, replicas_of, has_stream}
use Rattle.messages.specs.Messages.{Batch, all_pairs}
use Rattle.inbox.specs.Instances.{Instance, port_of_feed, key_of_entry}
use Rattle.inbox.specs.Timesteps.{is_whole, timesteps}
use Rattle.inbox.specs.Lives.{Life, all_lives}
use Rattle.inbox.specs.Wiring.{Wiring, wiring_of, instance_for}
use Rattle.inbox.specs.Executions.{Execution, emitted_list}
use Rattle.inbox.specs.Growth.{Continues, feed_numbered}
use Rattle.inbox.specs.Sent.{IsHistory}

-- batches with which a life of an instance begins
pub record IsLived (x : Execution) (c j : ℕ) (batches : List Batch) : Type 0 where
  pub life : Life
  pub lived : Has life (all_lives (x.lives c j))
  pub first : Continues batches life.heard

-- a feed of an instance at a port has emitted the record
pub record IsFed (w : Wiring) (given : Data) (x : Execution) (i : Instance) (port : ℕ) (r : Row) : Type 0 where
  pub feed : ℕ
  pub within : feed < length i.feeds
  pub at : port_of_feed i feed ≡ port
  pub sent : Has (row r) (emitted_list w given x (feed_numbered i feed).stream (feed_numbered i feed).sender)

-- of each of some timesteps the records with a key value, at the ports that have the key
abbrev pub of_partition : View → Program → (key : Attrs) → (value : Row) → List Sets → List Sets
of_partition v program key value nows = map (of_class v.attributes program (members key.bits) (λ values. values) value) nows

module _ (v : View) (d : Data) (x : Execution) (c j : ℕ) (key : Attrs) (program : Program) (batches : List Batch) (value : Row) where
  -- the partition isn't whole: nothing of it stands in a timestep, and there are no rows
  pub record IsWaiting (over : List Sets → List Row) : Type 0 where
    pub waits : is_whole (instance_for v c j) (all_pairs batches) value ≡ false
    pub silent : (now : Sets) → Has now (of_partition v program key value (timesteps (instance_for v c j) batches)) → (port : ℕ) → set_at now port ≡ []
    pub rows : over (of_partition v program key value (timesteps (instance_for v c j) batches)) ≡ []

  -- it is whole: the rows are those of one timestep, and that has at each carrying port all records of the partition that feeds of the port have emitted
  pub record IsAtOnce (over : List Sets → List Row) : Type 0 where
    pub whole : is_whole (instance_for v c j) (all_pairs batches) value ≡ true
    pub rows : over (of_partition v program key value (timesteps (instance_for v c j) batches)) ≡ over (at_once program (of_partition v program key value (timesteps (instance_for v c j) batches)) ∷ [])
    pub carried : (port : ℕ) (r : Row) → port < length (component_at v c).ports → IsTrue (port_carries v key.bits c port)
        → Has r (set_at (at_once program (of_partition v program key value (timesteps (instance_for v c j) batches))) port) ↔ (IsFed (wiring_of v) d x (instance_for v c j) port r × (key_of_entry (instance_for v c j) (port, r) ≡ Some value))

-- each port that is given W and has a stream is carrying
abbrev pub AreCarrying : View → (c : ℕ) → (key : Attrs) → (given : ℕ → Option Note) → Type 0
AreCarrying v c key given = (port : ℕ) → IsTrue (is_w (given port)) → IsTrue (has_stream v c port) → IsTrue (port_carries v key.bits c port)

-- one of the two holds of each rule of a module whose ports carry the key
abbrev pub RulesByPartitions : View → Data → Execution → (c j : ℕ) → (key : Attrs) → Accepted → List Batch → Row → Type 0
RulesByPartitions v d x c j key a batches value = (rule : RuleForm) → Has rule a.form.rules → AreCarrying v c key (rule_use v.attributes a rule)
    → IsWaiting v d x c j key (Module a) batches value (query_over a rule.1) ⊎ IsAtOnce v d x c j key (Module a) batches value (query_over a rule.1)

-- one of the two holds of each output of a program whose ports carry the key
abbrev pub OutputsByPartitions : View → Data → Execution → (c j : ℕ) → (key : Attrs) → Program → List Batch → Row → Type 0
OutputsByPartitions v d x c j key program batches value = (output : ℕ) → AreCarrying v c key (λ port. note_of v.attributes program port output)
    → IsWaiting v d x c j key program batches value (output_over program output) ⊎ IsAtOnce v d x c j key program batches value (output_over program output)

-- an instance in mode Seal, and batches with which a life of it begins, in a history over data that hold the dependencies
pub record IsSealing (v : View) (d : Data) (x : Execution) (c j : ℕ) (key : Attrs) (batches : List Batch) : Type 0 where
  pub history : IsHistory v d x
  pub holds : Holds v d
  pub there : c < length v.components
  pub replica : j < replicas_of v c
  pub mode : mode_of v c ≡ Seal key
  pub small : key.bits < 2 ^ 64
  pub lived : IsLived x c j batches
