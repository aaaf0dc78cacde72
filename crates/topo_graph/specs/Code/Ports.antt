-- The streams into each port, as a walk over the ends of all streams finds them.
use Rattle.std.specs.Prelude.{ℕ, ◌==◌, ◌<◌, List, [], map, filter, length, slice_index_or}
use Rattle.std.specs.List.{flat_map}
use Rattle.blz_value.specs.Bits.{bit_of}
use Rattle.blz_value.specs.Arrows.{with_all}
use Rattle.topo_graph.specs.declared.ports.Feed.{Feed}
use Rattle.blz_value.specs.Members.{Has}
use Rattle.topo_forms.specs.View.{View, End, component_at, ends_of, stream_numbers, component_numbers, port_numbers}

-- an end of a stream, with the set of that stream
abbrev pub feed_of : (stream : ℕ) → End → Feed
feed_of stream end = record { port = end.1; stream = stream }

-- the ends of a stream that are ports of a component
abbrev pub feeds_in : List End → (component stream : ℕ) → List Feed
feeds_in ends c stream = map (feed_of stream) (filter (λ end. c == end.0) ends)

abbrev pub feeds_at : View → (component stream : ℕ) → List Feed
feeds_at v c s = feeds_in (ends_of v s) c (bit_of s)

-- those of all streams
abbrev pub feeds_of : View → (component : ℕ) → List Feed
feeds_of v c = flat_map (feeds_at v c) (stream_numbers v)

-- told those at its component: the sets of the streams into a port, one for each of their ends
abbrev pub sets_into : List Feed → (port : ℕ) → List ℕ
sets_into feeds p = map (λ feed. feed.stream) (filter (λ feed. p == feed.port) feeds)

-- the streams into a port
abbrev pub set_of_port : List Feed → (port : ℕ) → ℕ
set_of_port feeds p = with_all 0 (sets_into feeds p)

-- the streams into each port of a component
abbrev pub row_of : View → (component : ℕ) → List ℕ
row_of v c = map (set_of_port (feeds_of v c)) (port_numbers v c)

-- and of each component
abbrev pub all_rows : View → List (List ℕ)
all_rows v = map (row_of v) (component_numbers v)

-- told these: the streams into a port
abbrev pub at_port : (rows : List (List ℕ)) → (component port : ℕ) → ℕ
at_port rows c p = slice_index_or (slice_index_or rows c []) p 0

-- streams go to ports that are there
abbrev pub HasPorts : View → Type 0
HasPorts v = (s : ℕ) (end : End) → s < length v.streams → Has end (ends_of v s) → end.1 < length (component_at v end.0).ports
