-- A source emits its messages, and the stream of an output what its instance emits there.
use Rattle.std.proofs.Common.{◌≡◌, ◌<◌, ℕ, ap, ◌∙◌, Option, None, Some, [], length, slice_get}
use Rattle.std.specs.Option.{option_map_or}
use Rattle.topo_forms.specs.Data.{Data, source_data}
use Rattle.topo_forms.specs.Messages.{source_messages}
use Rattle.topo_forms.specs.View.{View, End, Stream, origin_of, stream_at}
use Rattle.inbox.specs.Lives.{emitted_by}
use Rattle.inbox.specs.Wiring.{Wiring, wiring_of, instance_at}
use Rattle.inbox.specs.Executions.{Execution, list_from, emitted_list}
use Rattle.inbox.proofs.WiringLemmas.{stream-wired}

-- that of a stream that is there
pub list-there : (w : Wiring) (given : Data) (x : Execution) (s i : ℕ) (stream : Stream) → slice_get w.streams s ≡ Some stream → emitted_list w given x s i ≡ list_from stream.origin w given x stream s i
list-there w given x s i stream at = ap (λ (o : Option Stream). option_map_or (λ (z : Stream). list_from z.origin w given x z s i) o []) at

-- a source emits its messages
pub list-source : (w : Wiring) (given : Data) (x : Execution) (s i : ℕ) (stream : Stream) → slice_get w.streams s ≡ Some stream → stream.origin ≡ None → emitted_list w given x s i ≡ source_messages stream (source_data given s)
list-source w given x s i stream at none = list-there w given x s i stream at ∙ ap (λ (from : Option End). list_from from w given x stream s i) none

-- a stream of an output has what the instance emits there
pub list-output : (w : Wiring) (given : Data) (x : Execution) (s c o i : ℕ) (stream : Stream) → slice_get w.streams s ≡ Some stream → stream.origin ≡ Some (c, o) → emitted_list w given x s i ≡ emitted_by (instance_at w c i) (x.logs c) (x.lives c i) o
list-output w given x s c o i stream at some = list-there w given x s i stream at ∙ ap (λ (from : Option End). list_from from w given x stream s i) some

-- the same of the streams of a topology
pub source_list : (v : View) (given : Data) (x : Execution) (s i : ℕ) → s < length v.streams → origin_of v s ≡ None → emitted_list (wiring_of v) given x s i ≡ source_messages (stream_at v s) (source_data given s)
source_list v given x s i within none = list-source (wiring_of v) given x s i (stream_at v s) (stream-wired v s within) none

pub output_list : (v : View) (given : Data) (x : Execution) (s c o i : ℕ) → s < length v.streams → origin_of v s ≡ Some (c, o) → emitted_list (wiring_of v) given x s i ≡ emitted_by (instance_at (wiring_of v) c i) (x.logs c) (x.lives c i) o
output_list v given x s c o i within some = list-output (wiring_of v) given x s c o i (stream_at v s) (stream-wired v s within) some
