-- A label speaks of the paths behind it: how bad they are, and how their ports wait for a key.
use Rattle.std.specs.Prelude.{ℕ, ◌≡◌, ◌≤◌, ◌<◌, ◌⊎◌, IsTrue, IsFalse, Bool, true, false, Some, List, length}
use Rattle.blz_value.specs.Members.{Has}
use Rattle.blz_value.specs.Bits.{members}
use Rattle.blz_value.specs.declared.attrs.Attrs.{Attrs}
use Rattle.blz_value.specs.Closure.{within, closure}
use Rattle.bloom_forms.specs.declared.note.Note.{Note}
use Rattle.bloom_forms.specs.declared.note.Note.TheVariants.{CR, CW, OR, OW}
use Rattle.bloom_forms.specs.Note.{own_gate}
use Rattle.bloom_forms.specs.declared.mode.Mode.TheVariants as mode
use Rattle.topo_forms.specs.Carried.{is_confluent, port_carries}
use Rattle.topo_forms.specs.Dependencies.{usable_fds}
use Rattle.topo_forms.specs.Regions.{is_in_cycle}
use Rattle.topo_forms.specs.View.{View, End, origin_of, mode_of, is_order, note_at, has_stream, port_attrs, streams_to}
use Rattle.label_rules.specs.declared.label.Label.{Label}
use Rattle.label_rules.specs.Label.{severity}
use Rattle.label_rules.specs.Reconciliation.{is_protected}
use Rattle.label_walk.specs.Paths.{label_at, output_paths, notes_in, region_inputs}

-- ---- outputs outside cycles

-- a stream of an output whose component isn't Order and not in a cyclic region
pub record IsOutside (v : View) (stream : ℕ) (output : End) : Type 0 where
  pub stands : stream < length v.streams
  pub origin : origin_of v stream ≡ Some output
  pub unordered : IsFalse (is_order v output.0)
  pub acyclic : IsFalse (is_in_cycle v output.0)

-- a path to an output: a port with this note towards it, and a stream into the port
pub record IsPath (v : View) (output : End) (port : ℕ) (note : Note) (stream : ℕ) : Type 0 where
  pub noted : note_at v output.0 port output.1 ≡ Some note
  pub leads : Has stream (streams_to v output.0 port)

-- the output is protected
abbrev pub IsProtected : View → List Label → (output : End) → Type 0
IsProtected v labels output = IsTrue (is_protected (output_paths v labels output.0 output.1) (mode_of v output.0) (usable_fds v output.0))

-- no path to the output has an O note
abbrev pub HasConfluentPaths : View → (output : End) → Type 0
HasConfluentPaths v output = (port : ℕ) (note : Note) (stream : ℕ) → IsPath v output port note stream → IsTrue (is_confluent note)

-- no path to the output has a worse label than this, and where a path has an O note the output is protected
pub record HasGoodPaths (v : View) (labels : List Label) (output : End) (worst : Label) : Type 0 where
  pub labelled : (port : ℕ) (note : Note) (stream : ℕ) → IsPath v output port note stream → severity (label_at labels stream) ≤ severity worst
  pub kept : IsProtected v labels output ⊎ HasConfluentPaths v output

-- ---- protected outputs

-- a note OR, which asks no key of its port
abbrev pub is_ordered_read : Note → Bool
is_ordered_read CR = false
is_ordered_read CW = false
is_ordered_read (OR gate) = true
is_ordered_read (OW gate) = false

-- a port with a note towards an output that waits for a key: it has the key's columns; it carries the key, or its note is OR; and the key lies in the closure of the note's gate
pub record WaitsFor (v : View) (component port : ℕ) (note : Note) (key : Attrs) : Type 0 where
  pub columns : IsTrue (within key.bits (port_attrs v component port).bits)
  pub carrying : IsTrue (port_carries v key.bits component port) ⊎ IsTrue (is_ordered_read note)
  pub gated : (gate : Attrs) → own_gate note ≡ Some gate → IsTrue (within key.bits (closure gate.bits (usable_fds v component)))

-- the mode is Seal of a key, for which each port with a stream and a note towards the output waits
pub record IsGuarded (v : View) (output : End) : Type 0 where
  pub key : Attrs
  pub sealed : mode_of v output.0 ≡ mode.Seal key
  pub waits : (port : ℕ) (note : Note) → IsTrue (has_stream v output.0 port) → note_at v output.0 port output.1 ≡ Some note → WaitsFor v output.0 port note key

-- ---- cyclic regions

-- a stream of a component in a cyclic region
pub record IsInCycle (v : View) (stream : ℕ) (output : End) : Type 0 where
  pub stands : stream < length v.streams
  pub origin : origin_of v stream ≡ Some output
  pub cyclic : IsTrue (is_in_cycle v output.0)

-- no stream from outside into the region is worse than this, and no note of a member is O
pub record HasGoodInputs (v : View) (labels : List Label) (set : ℕ) (worst : Label) : Type 0 where
  pub labelled : (input : ℕ × End) → Has input (region_inputs v set) → severity (label_at labels input.0) ≤ severity worst
  pub confluent : (component : ℕ) (note : Note) → Has component (members set) → Has note (notes_in v component) → IsTrue (is_confluent note)
