-- An instance is one replica of a component: its program, its mode, its ports, and the feeds on which messages come to it.
use Rattle.std.specs.Prelude.{ℕ, Bool, false, Option, List, filter, length, slice_get}
use Rattle.std.specs.List.{filter_map, range_with_len}
use Rattle.std.specs.Option.{option_map, option_map_or, option_and_then}
use Rattle.blz_value.specs.Record.{Row}
use Rattle.blz_value.specs.Operators.{cells}
use Rattle.bloom_forms.specs.declared.program.Program.{Program}
use Rattle.topo_forms.specs.Feeds.{Feed}
use Rattle.bloom_forms.specs.declared.mode.Mode.{Mode}
use Rattle.topo_forms.specs.Messages.{is_same_row, row_in}
use Rattle.messages.specs.Messages.{Pair, Entry}
pub use Rattle.messages.specs.Ports.{PortKey}

-- an instance: its program where it has a body, its mode, its ports, its feeds by their numbers, and of each output the places of the key that its stream carries
pub record Instance : Type 0 where
  pub program : Option Program
  pub mode : Mode
  pub ports : List PortKey
  pub feeds : List Feed
  pub outputs : List (Option (List ℕ))

-- ---- ports and feeds by their numbers

-- the port of a feed; past the end the number of ports, which is that of no port
abbrev pub port_of_feed : Instance → (feed : ℕ) → ℕ
port_of_feed i feed = option_map_or (λ f. f.port) (slice_get i.feeds feed) (length i.ports)

-- the places of the key in the columns of a port, where it has them all
abbrev pub key_places_at : Instance → (port : ℕ) → Option (List ℕ)
key_places_at i port = option_and_then (λ p. p.places) (slice_get i.ports port)

-- the port carries the key of the mode
abbrev pub is_carrying : Instance → (port : ℕ) → Bool
is_carrying i port = option_map_or (λ p. p.carries) (slice_get i.ports port) false

-- the feeds of the ports that carry the key
abbrev pub carrying_feeds : Instance → List ℕ
carrying_feeds i = filter (λ feed. is_carrying i (port_of_feed i feed)) (range_with_len 0 (length i.feeds))

-- ---- records at ports

-- the record of a pair with its port, where the pair isn't a seal
abbrev pub entry_of : Instance → Pair → Option Entry
entry_of i pair = option_map (λ r. (port_of_feed i pair.0, r)) (row_in pair.1)

-- the records that were heard with their ports, in their order
abbrev pub entries_of : Instance → List Pair → List Entry
entries_of i pairs = filter_map (entry_of i) pairs

-- the key value of a record, where its port has all columns of the key
abbrev pub key_of_entry : Instance → Entry → Option Row
key_of_entry i entry = option_map (λ places. cells places entry.1) (key_places_at i entry.0)

-- it is a record of this partition
abbrev pub is_of_key : Instance → (key : Row) → Entry → Bool
is_of_key i key entry = option_map_or (is_same_row key) (key_of_entry i entry) false
