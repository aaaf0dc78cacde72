-- The components that feed each, over the streams that count.
use Rattle.std.specs.Prelude.{ℕ, ◌&&◌, not, is_some, Bool, List, map, slice_index_or}
use Rattle.std.specs.Option.{option_map_or}
use Rattle.blz_value.specs.Arrows.{with_all, bit_if}
use Rattle.blz_value.specs.Graph.{is_in}
use Rattle.topo_forms.specs.View.{View, origin_of, is_order, goes_into, stream_numbers, component_numbers}

-- a stream of an output that goes into a component which isn't Order
abbrev pub counts_into : View → (component stream : ℕ) → Bool
counts_into v c s = is_some (origin_of v s) && (not (is_order v c) && goes_into v c s)

-- the component from which a stream comes, and 0 of a source
abbrev pub sender_of : View → (stream : ℕ) → ℕ
sender_of v s = option_map_or (λ output. output.0) (origin_of v s) 0

-- the components that feed a component
abbrev pub feeders : View → (component : ℕ) → ℕ
feeders v c = with_all 0 (map (λ s. bit_if (counts_into v c s) (sender_of v s)) (stream_numbers v))

-- the feeders of each component
abbrev pub all_feeders : View → List ℕ
all_feeders v = map (feeders v) (component_numbers v)

-- told the streams into a component: a stream of an output among them, where the component isn't Order
abbrev pub counts_by : View → (into component stream : ℕ) → Bool
counts_by v into c s = is_some (origin_of v s) && (not (is_order v c) && is_in s into)

-- told these: the components that feed a component
abbrev pub feeders_by : View → (into component : ℕ) → ℕ
feeders_by v into c = with_all 0 (map (λ s. bit_if (counts_by v into c s) (sender_of v s)) (stream_numbers v))

-- told those into each component
abbrev pub feeders_at : View → (into : List ℕ) → (component : ℕ) → ℕ
feeders_at v into c = feeders_by v (slice_index_or into c 0) c

abbrev pub all_feeders_by : View → (into : List ℕ) → List ℕ
all_feeders_by v into = map (feeders_at v into) (component_numbers v)
