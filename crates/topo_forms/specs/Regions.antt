-- The regions of a topology.
use Rattle.std.specs.Prelude.{ℕ, not, Bool, List, [], map, length, filter, slice_index_or}
use Rattle.std.specs.List.{flat_map, position_or_len}
use Rattle.std.specs.Option.{option_map_or}
use Rattle.blz_value.specs.Bits.{members}
use Rattle.blz_value.specs.Graph.{Edge, arrows, is_in, region, numbered_regions, is_cyclic_set}
use Rattle.topo_forms.specs.View.{View, End, origin_of, ends_of, is_order, stream_numbers}

-- the ports to which a stream goes that count: those of components that aren't Order
abbrev pub counting_ends : View → (stream : ℕ) → List End
counting_ends v s = filter (λ end. not (is_order v end.0)) (ends_of v s)

-- from the component of a stream to each component to which it goes
abbrev pub edges_of : View → (stream : ℕ) → List Edge
edges_of v s = option_map_or (λ output. map (λ end. (output.0, end.0)) (counting_ends v s)) (origin_of v s) []

-- who feeds whom over the streams that count
abbrev pub edges : View → List Edge
edges v = flat_map (edges_of v) (stream_numbers v)

-- the region of a component, as a set: two components are in one where each reaches the other
unfoldable pub region_set : View → (component : ℕ) → ℕ
region_set v c = region (arrows (edges v)) (length v.components) c

-- the regions by their numbers
unfoldable pub regions : View → List ℕ
regions v = numbered_regions (edges v) (length v.components)

-- the number of the region of a component
abbrev pub region_of : View → (component : ℕ) → ℕ
region_of v c = position_or_len (is_in c) (regions v)

-- the members of a region, in file order
abbrev pub region_members : View → (region : ℕ) → List ℕ
region_members v r = members (slice_index_or (regions v) r 0)

-- the region of a component is cyclic
unfoldable pub is_in_cycle : View → (component : ℕ) → Bool
is_in_cycle v c = is_cyclic_set (edges v) (region_set v c)

-- a region is cyclic
abbrev pub is_cyclic : View → (region : ℕ) → Bool
is_cyclic v r = is_cyclic_set (edges v) (slice_index_or (regions v) r 0)
