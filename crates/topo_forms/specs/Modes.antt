-- Topologies with other modes.
use Rattle.std.specs.Prelude.{ℕ, List, [], map, slice_index_or, slice_set}
use Rattle.blz_value.specs.Bits.{members}
use Rattle.bloom_forms.specs.Query.{Name}
use Rattle.bloom_forms.specs.declared.mode.Mode.{Mode}
use Rattle.bloom_forms.specs.declared.mode.Mode.TheVariants.{Free, Pass, Seal, Order}
use Rattle.topo_forms.specs.declared.topology.ComponentEntry.{ComponentEntry}
use Rattle.topo_forms.specs.declared.topology.ModeName.{ModeName}
use Rattle.topo_forms.specs.declared.topology.ModeName.TheVariants as written
use Rattle.topo_forms.specs.declared.topology.Topology.{Topology}
use Rattle.topo_forms.specs.Sites.{no_entry}

-- the names of the attributes in a set, in the order of their numbers
abbrev pub names_in : (attributes : List Name) → (set : ℕ) → List Name
names_in attributes set = map (λ attribute. slice_index_or attributes attribute []) (members set)

abbrev pub mode_name : Mode → ModeName
mode_name Free = written.Free
mode_name (Pass key) = written.Pass
mode_name (Seal key) = written.Seal
mode_name Order = written.Order

abbrev pub key_names : (attributes : List Name) → Mode → List Name
key_names attributes Free = []
key_names attributes (Pass key) = names_in attributes key.bits
key_names attributes (Seal key) = names_in attributes key.bits
key_names attributes Order = []

-- a component as it is written, with this mode and key
abbrev pub entry_with_mode : (attributes : List Name) → Mode → ComponentEntry → ComponentEntry
entry_with_mode attributes mode c = record c { mode = mode_name mode; key = key_names attributes mode }

-- a topology as it is written, with this mode and key at one component
abbrev pub topology_with_mode : (attributes : List Name) → Topology → (component : ℕ) → Mode → Topology
topology_with_mode attributes t c mode = record t { components = slice_set t.components c (entry_with_mode attributes mode (slice_index_or t.components c no_entry)) }
