-- Executions see a topology as its streams and the instances of its components.
use Rattle.std.specs.Prelude.{ℕ, nat_lt, Bool, false, if◌then◌else◌, Option, Some, None, List, [], map, length, slice_index_or}
use Rattle.std.specs.Option.{option_map, option_and_then}
use Rattle.blz_value.specs.declared.attrs.Attrs.{Attrs}
use Rattle.blz_value.specs.Closure.{within}
use Rattle.bloom_forms.specs.declared.mode.Mode.TheVariants.{Free}
use Rattle.topo_forms.specs.View.{View, Stream, stream_at, mode_of, mode_key, program_of, replicas_of, port_at, port_attrs, component_numbers, port_numbers, output_numbers, stream_of, is_order, is_order_mode}
use Rattle.topo_forms.specs.Feeds.{Feed, feeds, log_feeds}
use Rattle.topo_forms.specs.Data.{key_places}
use Rattle.topo_forms.specs.Carried.{carries, port_carries}
use Rattle.blz_value.specs.NumberSets.{below}
use Rattle.inbox.specs.Instances.{PortKey, Instance}

-- the streams, and of each component its instances
pub record Wiring : Type 0 where
  pub streams : List Stream
  pub components : List (List Instance)

-- ---- parts by their numbers

-- an instance with nothing
abbrev pub nobody : Instance
nobody = record { program = None; mode = Free; ports = []; feeds = []; outputs = [] }

-- the instances of a component
abbrev pub instances_at : Wiring → (component : ℕ) → List Instance
instances_at w component = slice_index_or w.components component []

-- one of them
abbrev pub instance_at : Wiring → (component replica : ℕ) → Instance
instance_at w component replica = slice_index_or (instances_at w component) replica nobody

-- the component and its replica are there
abbrev pub is_there : Wiring → (component replica : ℕ) → Bool
is_there w component replica = nat_lt replica (length (instances_at w component))

-- the component is there and is Order
abbrev pub is_sequencer : Wiring → (component : ℕ) → Bool
is_sequencer w component = is_order_mode (instance_at w component 0).mode

-- ---- the wiring of a topology

-- the places of a key in the columns of a port, where it has them all
abbrev pub places_in_port : View → (component port : ℕ) → Attrs → Option (List ℕ)
places_in_port v c p key = if within key.bits (port_attrs v c p).bits then Some (key_places (map Some (port_at v c p).columns) key.bits) else None

-- a port, where the mode has this key
abbrev pub port_for : View → (component port : ℕ) → Option Attrs → PortKey
port_for v c p None = record { places = None; carries = false }
port_for v c p (Some key) = record { places = places_in_port v c p key; carries = port_carries v key.bits c p }

-- the places of the key that a stream carries
abbrev pub carried_places : View → (stream : ℕ) → Option (List ℕ)
carried_places v s = option_map (λ key. key_places (stream_at v s).columns key.bits) (carries v s)

-- the feeds of an instance; those of an Order component are the same for all its replicas
abbrev pub feeds_for : View → (component replica : ℕ) → List Feed
feeds_for v c j = if is_order v c then log_feeds v c else feeds v c j

-- an instance of a component
abbrev pub instance_for : View → (component replica : ℕ) → Instance
instance_for v c j = record {
  program = program_of v c;
  mode = mode_of v c;
  ports = map (λ p. port_for v c p (mode_key (mode_of v c))) (port_numbers v c);
  feeds = feeds_for v c j;
  outputs = map (λ o. option_and_then (carried_places v) (stream_of v c o)) (output_numbers v c);
}

-- the wiring of a topology
unfoldable pub wiring_of : View → Wiring
wiring_of v = record {
  streams = v.streams;
  components = map (λ c. map (instance_for v c) (below (replicas_of v c))) (component_numbers v);
}
