-- A topology by numbers: how all that stands above sees it.
use Rattle.std.specs.Prelude.{ℕ, Bool, true, false, ◌==◌, ◌&&◌, nat_lt, if◌then◌else◌, Option, None, Some, is_none, is_some, List, [], map, length, filter, slice_index_or, slice_set}
use Rattle.std.specs.List.{list_any, position_from, zip}
use Rattle.std.specs.Option.{option_map_or}
use Rattle.std.specs.Str.{bytes_eq}
use Rattle.blz_value.specs.declared.attrs.Attrs.{Attrs}
use Rattle.blz_value.specs.declared.attrs.Fd.{Fd}
use Rattle.bloom_forms.specs.declared.program.Program.{Program}
use Rattle.bloom_forms.specs.Query.{Name}
use Rattle.bloom_forms.specs.declared.note.Note.{Note}
use Rattle.bloom_forms.specs.Gates.{set_of_roots}
use Rattle.bloom_forms.specs.Roots.{Roots, are_same}
use Rattle.blz_value.specs.NumberSets.{below, set_of_numbers}
use Rattle.bloom_forms.specs.declared.mode.Mode.{Mode}
use Rattle.bloom_forms.specs.declared.mode.Mode.TheVariants.{Free, Pass, Seal, Order}

-- ---- the parts

-- an end of a stream: the number of a component, and of one of its ports or, where a stream begins, outputs
abbrev pub End : Type 0
End = ℕ × ℕ

-- a stream: the output from which it comes, and none for a source; the attribute of each column, where its name is one; the key of a source's seals; the ports to which it goes
pub record Stream : Type 0 where
  pub name : Name
  pub origin : Option End
  pub columns : Roots
  pub key : Option Attrs
  pub to : List End

-- a port: the attribute of each column
pub record Port : Type 0 where
  pub name : Name
  pub columns : List ℕ

-- an output: the attribute of each column, where its name is one; the root of each column; its gate. Without a body no column has a root, and the gate is empty
pub record Output : Type 0 where
  pub name : Name
  pub columns : Roots
  pub roots : Roots
  pub gate : Attrs

-- a component: what its body runs; its mode; how many replicas it has; its ports and outputs; for each port the note towards each output, a declared one in place of a derived one
pub record Component : Type 0 where
  pub name : Name
  pub program : Option Program
  pub mode : Mode
  pub replicas : ℕ
  pub ports : List Port
  pub outputs : List Output
  pub notes : List (List (Option Note))

-- a topology: the names of its attributes; its streams, sources first; its components; its dependencies
pub record View : Type 0 where
  pub attributes : List Name
  pub streams : List Stream
  pub components : List Component
  pub fds : List Fd

-- ---- what stands past the end

abbrev pub no_attrs : Attrs
no_attrs = record { bits = 0 }

abbrev pub no_stream : Stream
no_stream = record { name = []; origin = None; columns = []; key = None; to = [] }

abbrev pub no_port : Port
no_port = record { name = []; columns = [] }

abbrev pub no_output : Output
no_output = record { name = []; columns = []; roots = []; gate = no_attrs }

abbrev pub no_component : Component
no_component = record { name = []; program = None; mode = Free; replicas = 0; ports = []; outputs = []; notes = [] }

abbrev pub no_fd : Fd
no_fd = record { from = no_attrs; to = no_attrs }

-- ---- parts by their numbers; past the end of a list stands a part that holds nothing

abbrev pub stream_at : View → ℕ → Stream
stream_at v s = slice_index_or v.streams s no_stream

abbrev pub component_at : View → ℕ → Component
component_at v c = slice_index_or v.components c no_component

abbrev pub port_at : View → (component port : ℕ) → Port
port_at v c p = slice_index_or (component_at v c).ports p no_port

abbrev pub output_at : View → (component output : ℕ) → Output
output_at v c o = slice_index_or (component_at v c).outputs o no_output

abbrev pub fd_at : View → ℕ → Fd
fd_at v n = slice_index_or v.fds n no_fd

abbrev pub attribute_name : View → ℕ → Name
attribute_name v attribute = slice_index_or v.attributes attribute []

abbrev pub stream_numbers : View → List ℕ
stream_numbers v = below (length v.streams)

abbrev pub component_numbers : View → List ℕ
component_numbers v = below (length v.components)

abbrev pub port_numbers : View → (component : ℕ) → List ℕ
port_numbers v c = below (length (component_at v c).ports)

abbrev pub output_numbers : View → (component : ℕ) → List ℕ
output_numbers v c = below (length (component_at v c).outputs)

-- ---- what a topology says of its parts

-- the output from which a stream comes, and none for a source
abbrev pub origin_of : View → ℕ → Option End
origin_of v s = (stream_at v s).origin

abbrev pub is_source : Stream → Bool
is_source stream = is_none stream.origin

-- how many sources there are
abbrev pub source_count : View → ℕ
source_count v = length (filter is_source v.streams)

-- the ports to which a stream goes
abbrev pub ends_of : View → ℕ → List End
ends_of v s = (stream_at v s).to

abbrev pub mode_of : View → (component : ℕ) → Mode
mode_of v c = (component_at v c).mode

abbrev pub program_of : View → (component : ℕ) → Option Program
program_of v c = (component_at v c).program

-- the component has a body
abbrev pub has_body : View → (component : ℕ) → Bool
has_body v c = is_some (program_of v c)

abbrev pub replicas_of : View → (component : ℕ) → ℕ
replicas_of v c = (component_at v c).replicas

-- a component is replicated where it has more than one replica
abbrev pub is_replicated : View → (component : ℕ) → Bool
is_replicated v c = nat_lt 1 (replicas_of v c)

abbrev pub is_order_mode : Mode → Bool
is_order_mode Free = false
is_order_mode (Pass key) = false
is_order_mode (Seal key) = false
is_order_mode Order = true

-- the component is Order
abbrev pub is_order : View → (component : ℕ) → Bool
is_order v c = is_order_mode (mode_of v c)

-- the key of a mode that is Pass or Seal
abbrev pub mode_key : Mode → Option Attrs
mode_key Free = None
mode_key (Pass key) = Some key
mode_key (Seal key) = Some key
mode_key Order = None

-- how many replicas send a stream: one of a source
abbrev pub senders_of : View → Option End → ℕ
senders_of v None = 1
senders_of v (Some output) = replicas_of v output.0

abbrev pub stream_replicas : View → ℕ → ℕ
stream_replicas v s = senders_of v (origin_of v s)

-- the note of the path from a port to an output
abbrev pub note_at : View → (component port output : ℕ) → Option Note
note_at v c p o = slice_index_or (slice_index_or (component_at v c).notes p []) o None

-- ---- sets of attributes

-- the attributes of a port's columns
abbrev pub port_attrs : View → (component port : ℕ) → Attrs
port_attrs v c p = record { bits = set_of_numbers (port_at v c p).columns }

-- the attributes of a stream's columns
abbrev pub stream_attrs : View → ℕ → Attrs
stream_attrs v s = record { bits = set_of_roots (stream_at v s).columns }

-- the attribute of a column that has itself as its root
abbrev pub own_root : Option ℕ × Option ℕ → Option ℕ
own_root column = if are_same column.0 column.1 then column.0 else None

-- the attributes that an output has as a column whose root is that attribute
abbrev pub own_attrs : Output → ℕ
own_attrs output = set_of_roots (map own_root (zip output.columns output.roots))

-- ---- names

abbrev pub number_named : {X : Type 0} → (X → Name) → List X → Name → Option ℕ
number_named name_of xs name = position_from (λ x. bytes_eq (name_of x) name) 0 xs

abbrev pub find_stream : View → Name → Option ℕ
find_stream v name = number_named (λ s. s.name) v.streams name

abbrev pub find_component : View → Name → Option ℕ
find_component v name = number_named (λ c. c.name) v.components name

abbrev pub find_port : View → (component : ℕ) → Name → Option ℕ
find_port v c name = number_named (λ p. p.name) (component_at v c).ports name

-- ---- who feeds whom

-- two ends are one
abbrev pub same_end : End → End → Bool
same_end a b = a.0 == b.0 && a.1 == b.1

-- a stream goes to this port
abbrev pub goes_to : View → (component port stream : ℕ) → Bool
goes_to v c p s = list_any (λ end. same_end (c, p) end) (ends_of v s)

-- a stream goes to some port of this component
abbrev pub goes_into : View → (component stream : ℕ) → Bool
goes_into v c s = list_any (λ end. c == end.0) (ends_of v s)

-- the streams into a port, in order
abbrev pub streams_to : View → (component port : ℕ) → List ℕ
streams_to v c p = filter (goes_to v c p) (stream_numbers v)

-- the streams into a component, in order
abbrev pub streams_into : View → (component : ℕ) → List ℕ
streams_into v c = filter (goes_into v c) (stream_numbers v)

-- the port has a stream
abbrev pub has_stream : View → (component port : ℕ) → Bool
has_stream v c p = list_any (goes_to v c p) (stream_numbers v)

-- the ports with a note towards an output, in order
abbrev pub ports_towards : View → (component output : ℕ) → List ℕ
ports_towards v c o = filter (λ p. is_some (note_at v c p o)) (port_numbers v c)

-- a stream comes from this component
abbrev pub comes_from : View → (component stream : ℕ) → Bool
comes_from v c s = option_map_or (λ output. output.0 == c) (origin_of v s) false

-- the streams from a component, in order
abbrev pub streams_from : View → (component : ℕ) → List ℕ
streams_from v c = filter (comes_from v c) (stream_numbers v)

-- a stream is that of this output
abbrev pub is_stream_of : View → (component output stream : ℕ) → Bool
is_stream_of v c o s = option_map_or (same_end (c, o)) (origin_of v s) false

-- the stream of an output, where it has one
abbrev pub stream_of : View → (component output : ℕ) → Option ℕ
stream_of v c o = position_from (λ stream. option_map_or (same_end (c, o)) stream.origin false) 0 v.streams

-- ---- other modes

abbrev pub component_with_mode : Mode → Component → Component
component_with_mode mode c = record c { mode = mode }

-- the topology with another mode of one component
abbrev pub with_mode : View → (component : ℕ) → Mode → View
with_mode v c mode = record v { components = slice_set v.components c (component_with_mode mode (component_at v c)) }
