-- Valid topologies: what stands of them, and what a validation answers.
use Rattle.std.specs.Prelude.{ℕ, ◌^◌, ◌≡◌, ◌≢◌, ◌≤◌, ◌<◌, ◌↔◌, IsTrue, IsFalse, Option, None, Some, List, map, length, slice_index_or, []}
use Rattle.std.specs.List.{AllPairs, filter_map}
use Rattle.blz_value.specs.Members.{Has}
use Rattle.blz_value.specs.declared.attrs.Fd.{Fd}
use Rattle.blz_value.specs.Closure.{within}
use Rattle.bloom_forms.specs.declared.program.Program.{Program}
use Rattle.bloom_forms.specs.Checks.{IsChecked}
use Rattle.bloom_forms.specs.Fits.{repeats}
use Rattle.bloom_forms.specs.Form.{Accepted}
use Rattle.bloom_forms.specs.Program.{port_columns, output_columns}
use Rattle.bloom_forms.specs.Query.{Name}
use Rattle.bloom_forms.specs.Proper.{IsProper}
use Rattle.bloom_forms.specs.declared.note.Note.{Note}
use Rattle.bloom_forms.specs.Annotation.{roots_of_output, gate_of_output}
use Rattle.bloom_forms.specs.HeadRoots.{attribute_roots}
use Rattle.bloom_forms.specs.Note.{covers}
use Rattle.topo_forms.specs.declared.topology.ComponentEntry.{ComponentEntry}
use Rattle.topo_forms.specs.declared.topology.Body.{Body}
use Rattle.topo_forms.specs.declared.topology.Body.TheVariants as body
use Rattle.topo_forms.specs.declared.topology.Topology.{Topology}
use Rattle.topo_forms.specs.Allowed.{IsAllowed}
use Rattle.topo_forms.specs.Validity.{fault_of}
use Rattle.topo_forms.specs.Feeds.{can_be_paired}
use Rattle.topo_forms.specs.Regions.{is_in_cycle}
use Rattle.topo_forms.specs.View.{View, End, component_at, stream_at, port_at, output_at, origin_of, ends_of, mode_of, mode_key, program_of, replicas_of, stream_replicas, note_at, stream_attrs, source_count, is_order}
use Rattle.topo_forms.specs.ViewOf.{view_of, modules_in, derived_note}

-- ---- what holds of the view of a valid topology: no law asks for more

-- numbers are those of parts, names are distinct, each output has one stream at most, sources stand first, and the sides of dependencies are sets of attributes
pub record AreNumbered (v : View) : Type 0 where
  pub few_streams : length v.streams ≤ 64
  pub few_components : length v.components ≤ 32
  pub few_attributes : length v.attributes ≤ 64
  pub attribute_names : AllPairs (λ a b. a ≢ b) v.attributes
  pub stream_names : AllPairs (λ a b. a.name ≢ b.name) v.streams
  pub component_names : AllPairs (λ a b. a.name ≢ b.name) v.components
  pub sources : (s : ℕ) → s < length v.streams → (origin_of v s ≡ None) ↔ (s < source_count v)
  pub origins : (s : ℕ) (output : End) → s < length v.streams → origin_of v s ≡ Some output
      → (output.0 < length v.components) × (output.1 < length (component_at v output.0).outputs)
  pub one_stream : (s u : ℕ) (output : End) → s < length v.streams → u < length v.streams
      → origin_of v s ≡ Some output → origin_of v u ≡ Some output → s ≡ u
  pub ends : (s : ℕ) (end : End) → s < length v.streams → Has end (ends_of v s)
      → (end.0 < length v.components) × (end.1 < length (component_at v end.0).ports)
  pub sides : (fd : Fd) → Has fd v.fds → (fd.from.bits < 2 ^ 64) × (fd.to.bits < 2 ^ 64)

-- a stream has the columns of its output and of each port to which it goes, by name and in order; the key of a source lies in its columns, and only a source has one
pub record HasColumns (v : View) (s : ℕ) : Type 0 where
  pub of_output : (output : End) → origin_of v s ≡ Some output → (stream_at v s).columns ≡ (output_at v output.0 output.1).columns
  pub of_port : (end : End) → Has end (ends_of v s) → (stream_at v s).columns ≡ map Some (port_at v end.0 end.1).columns
  pub of_key : (key : _) → (stream_at v s).key ≡ Some key → IsTrue (within key.bits (stream_attrs v s).bits)
  pub of_source : (key : _) → (stream_at v s).key ≡ Some key → origin_of v s ≡ None

-- a note is used wherever one is derived, and covers it
abbrev pub IsCovered : Option Note → Option Note → Type 0
IsCovered used None = Unit {0}
IsCovered None (Some derived) = ⊥
IsCovered (Some used) (Some derived) = IsTrue (covers used derived)

-- what a component runs is a checked module or a proper stock body, no port of which has a column twice, with the component's ports and outputs, and its roots, gates and notes are those of the program
pub record Runs (v : View) (c : ℕ) (program : Program) : Type 0 where
  pub proper : IsProper program
  pub distinct : (columns : List Name) → Has columns (port_columns program) → IsFalse (repeats columns)
  pub ports : map (λ port. map Some port.columns) (component_at v c).ports ≡ map (attribute_roots v.attributes) (port_columns program)
  pub outputs : map (λ output. output.columns) (component_at v c).outputs ≡ map (attribute_roots v.attributes) (output_columns program)
  pub roots : (o : ℕ) → o < length (component_at v c).outputs → (output_at v c o).roots ≡ roots_of_output v.attributes program o
  pub gates : (o : ℕ) → o < length (component_at v c).outputs → (output_at v c o).gate.bits ≡ gate_of_output v.attributes program o
  pub notes : (p o : ℕ) → p < length (component_at v c).ports → o < length (component_at v c).outputs
      → IsCovered (note_at v c p o) (derived_note v.attributes (Some program) p o)

-- a component has one to eight replicas and a note or none for each port and output; in a cyclic region its mode has no key; its program is as it should be
pub record IsComponent (v : View) (c : ℕ) : Type 0 where
  pub some_replica : 1 ≤ replicas_of v c
  pub few_replicas : replicas_of v c ≤ 8
  pub note_rows : length (component_at v c).notes ≡ length (component_at v c).ports
  pub note_row : (p : ℕ) → p < length (component_at v c).ports → length (slice_index_or (component_at v c).notes p []) ≡ length (component_at v c).outputs
  pub no_seal : IsTrue (is_in_cycle v c) → mode_key (mode_of v c) ≡ None
  pub runs : (program : Program) → program_of v c ≡ Some program → Runs v c program

-- replicas at both ends of a stream can be paired
abbrev pub IsPaired : View → ℕ → Type 0
IsPaired v s = (end : End) → Has end (ends_of v s) → IsFalse (is_order v end.0) → IsTrue (can_be_paired (stream_replicas v s) (replicas_of v end.0))

pub record IsValid (v : View) : Type 0 where
  pub numbered : AreNumbered v
  pub columns : (s : ℕ) → s < length v.streams → HasColumns v s
  pub paired : (s : ℕ) → s < length v.streams → IsPaired v s
  pub components : (c : ℕ) → c < length v.components → IsComponent v c

-- ---- how a Valid is seen

-- the topology as it is written, with the modes that it has, and its view
pub record Validated : Type 0 where
  pub topology : Topology
  pub view : View

-- the file of a body's module
abbrev pub file_in : Body → Option (List ℕ)
file_in (body.Module file) = Some file
file_in (body.Stock s) = None
file_in body.None = None

-- the file of a component's module
abbrev pub needs_module : ComponentEntry → Option (List ℕ)
needs_module c = file_in c.body

-- as many modules as components with a module, each of which was checked
pub record AreModules (t : Topology) (modules : List Accepted) : Type 0 where
  pub each : length modules ≡ length (filter_map needs_module t.components)
  pub checked : (m : Accepted) → Has m modules → IsChecked m.form m.heads

-- the view is that of the topology with these modules, and there is no fault
pub record IsValidated (modules : List Accepted) (seen : Validated) : Type 0 where
  pub allowed : IsAllowed seen.topology
  pub given : AreModules seen.topology modules
  pub clean : fault_of seen.topology modules ≡ None
  pub is : seen.view ≡ view_of seen.topology modules

-- the invariant of a Valid: its modules are those that its view has
abbrev pub IsWhole : Validated → Type 0
IsWhole seen = IsValidated (modules_in seen.view) seen
