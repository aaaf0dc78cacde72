-- Records agree where they have the same values in the same attributes, and a record is traced to a record of a source.
use Rattle.std.specs.Prelude.{ℕ, ◌≡◌, ◌<◌, IsTrue, List, map, Some, Bool}
use Rattle.std.specs.List.{list_all}
use Rattle.blz_value.specs.declared.value.Value.{Value}
use Rattle.blz_value.specs.Members.{Has}
use Rattle.blz_value.specs.Record.{Row}
use Rattle.blz_value.specs.Test.{cell}
use Rattle.blz_value.specs.declared.attrs.Attrs.{Attrs}
use Rattle.blz_value.specs.declared.attrs.Fd.{Fd}
use Rattle.blz_value.specs.Bits.{bit_of, meets}
use Rattle.blz_value.specs.Closure.{within}
use Rattle.bloom_forms.specs.declared.program.Program.{Program}
use Rattle.bloom_forms.specs.Step.{Sets, set_at}
use Rattle.bloom_forms.specs.Copies.{feeds_output}
use Rattle.bloom_forms.specs.Roots.{Roots}
use Rattle.topo_forms.specs.View.{View, mode_of, mode_key, stream_at, port_at, output_at, source_count, stream_attrs, port_attrs, own_attrs, has_stream}
use Rattle.topo_forms.specs.Carried.{may_carry, streams_towards, carries_key}
use Rattle.topo_forms.specs.Data.{Data, source_data, place_of_attribute, key_places, has_both}

-- the columns of a port, as those of a stream are given
abbrev pub port_roots : View → (component port : ℕ) → Roots
port_roots v c p = map Some (port_at v c p).columns

-- the value that a record with these columns has in an attribute
abbrev pub value_at : Roots → Row → (attribute : ℕ) → Value
value_at columns r attribute = cell r (place_of_attribute columns attribute)

-- two records have the same value in each attribute of a set
abbrev pub HaveSameValues : (set : ℕ) → (left : Roots) → Row → (right : Roots) → Row → Type 0
HaveSameValues set left a right b = (attribute : ℕ) → IsTrue (meets (bit_of attribute) set) → value_at left a attribute ≡ value_at right b attribute

-- a record has, in all columns of a dependency, the values of a record of a source that has them all
pub record IsTraced (v : View) (d : Data) (fd : Fd) (columns : Roots) (r : Row) : Type 0 where
  pub source : ℕ
  pub is_source : source < source_count v
  pub has_all : IsTrue (has_both fd (stream_attrs v source).bits)
  pub origin : Row
  pub there : Has origin (source_data d source).rows
  pub same_from : HaveSameValues fd.from.bits columns r (stream_at v source).columns origin
  pub same_to : HaveSameValues fd.to.bits columns r (stream_at v source).columns origin

-- a row of an output has, in the columns that are their own roots, the values of one record that arrived, in some timesteps, at a port that feeds the output and has these columns
pub record IsCopiedFrom (v : View) (component output : ℕ) (program : Program) (nows : List Sets) (r : Row) : Type 0 where
  pub now : Sets
  pub came : Has now nows
  pub port : ℕ
  pub feeds : IsTrue (feeds_output program output port)
  pub copied : Row
  pub arrived : Has copied (set_at now port)
  pub has_all : IsTrue (within (own_attrs (output_at v component output)) (port_attrs v component port).bits)
  pub same : HaveSameValues (own_attrs (output_at v component output)) (output_at v component output).columns r (port_roots v component port) copied

-- an output carries a key: that of its component's mode, at these places of its columns; it may carry it, and so do all streams into the ports with a note towards it
pub record IsCarriedBy (v : View) (stream component output : ℕ) (places : List ℕ) : Type 0 where
  pub key : Attrs
  pub of_mode : mode_key (mode_of v component) ≡ Some key
  pub at : places ≡ key_places (stream_at v stream).columns key.bits
  pub may : IsTrue (may_carry v key.bits (Some (component, output)))
  pub behind : IsTrue (list_all (carries_key v key.bits) (streams_towards v component output))

-- each used port that has a stream has each attribute of a key
abbrev pub HaveKey : View → (component : ℕ) → (is_used : ℕ → Bool) → (key : List ℕ) → Type 0
HaveKey v c is_used key = (p attribute : ℕ) → IsTrue (is_used p) → IsTrue (has_stream v c p) → Has attribute key → IsTrue (meets (bit_of attribute) (port_attrs v c p).bits)
