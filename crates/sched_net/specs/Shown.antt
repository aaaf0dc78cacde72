-- The tables of shells and the emitted lists show what is kept of each instance.
use Rattle.std.specs.Prelude.{◌≡◌, ◌<◌, ℕ, None, Some, List, [], length, slice_index_or}
use Rattle.bloom_forms.specs.Step.{Sets}
use Rattle.topo_forms.specs.Data.{Data, source_data}
use Rattle.topo_forms.specs.Messages.{Message, source_messages}
use Rattle.topo_forms.specs.View.{View, stream_at, origin_of, replicas_of}
use Rattle.inbox.specs.Emission.{list_of}
use Rattle.inbox.specs.Standing.{Seats}
use Rattle.messages.specs.Lists.{list_at}
use Rattle.inbox.specs.Places.{instance_place, instance_count, list_place, list_count}

-- the tables stand instance by instance, and the lists stream by stream; an output without a stream has no list
pub record ShowsSeats (v : View) (given : Data) (seats : Seats) (tables : List Sets) (lists : List (List Message)) : Type 0 where
  pub shells : length tables ≡ instance_count v
  pub count : length lists ≡ list_count v
  pub tables_are : (component replica : ℕ) → component < length v.components → replica < replicas_of v component
      → slice_index_or tables (instance_place v component replica) [] ≡ (seats.seats component replica).kept.tables
  pub outputs : (stream component output replica : ℕ) → stream < length v.streams → origin_of v stream ≡ Some (component, output) → replica < replicas_of v component
      → list_at lists (list_place v stream replica) ≡ list_of (seats.seats component replica).kept output
  pub sources : (stream : ℕ) → stream < length v.streams → origin_of v stream ≡ None → list_at lists (list_place v stream 0) ≡ source_messages (stream_at v stream) (source_data given stream)
