-- What is found of a view once, and what that asks of it.
use Rattle.std.specs.Prelude.{ℕ, ◌≡◌, ◌≤◌, ◌<◌, Some, List, map, length}
use Rattle.blz_value.specs.Members.{Has}
use Rattle.blz_value.specs.declared.attrs.Fd.{Fd}
use Rattle.topo_forms.specs.declared.graph_facts.GraphFacts.{GraphFacts}
use Rattle.topo_forms.specs.Carried.{carries}
use Rattle.topo_forms.specs.Dependencies.{upholders, is_usable}
use Rattle.topo_forms.specs.Regions.{regions, region_of, is_cyclic}
use Rattle.blz_value.specs.NumberSets.{below, set_where}
use Rattle.topo_forms.specs.View.{View, End, origin_of, ends_of, goes_to, stream_numbers, component_numbers, port_numbers}

-- few parts, and streams go between components that are there
pub record HasEnds (v : View) : Type 0 where
  pub few_streams : length v.streams ≤ 64
  pub few_components : length v.components ≤ 32
  pub origins : (s : ℕ) (output : End) → s < length v.streams → origin_of v s ≡ Some output → output.0 < length v.components
  pub ends : (s : ℕ) (end : End) → s < length v.streams → Has end (ends_of v s) → end.0 < length v.components

-- the streams into a port
abbrev pub into_port : View → (component port : ℕ) → ℕ
into_port v c p = set_where (goes_to v c p) (stream_numbers v)

-- the streams into each port of a component
abbrev pub into_ports : View → (component : ℕ) → List ℕ
into_ports v c = map (into_port v c) (port_numbers v c)

-- the components at which a dependency is usable
abbrev pub usable_at : View → Fd → ℕ
usable_at v fd = set_where (λ c. is_usable v c fd) (component_numbers v)

-- the streams into each port of each component; the regions, whether each is cyclic, and the number of that of each component; the streams that uphold each dependency, and the components at which it is usable; the key that each stream carries
abbrev pub found_of : View → GraphFacts
found_of v = record {
  into = map (into_ports v) (component_numbers v);
  regions = regions v;
  cyclic = map (is_cyclic v) (below (length (regions v)));
  numbers = map (region_of v) (component_numbers v);
  upheld = map (upholders v) v.fds;
  usable = map (usable_at v) v.fds;
  carried = map (carries v) (stream_numbers v);
}
