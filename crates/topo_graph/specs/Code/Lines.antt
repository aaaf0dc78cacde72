-- Streams as dependencies look at them, and what is found of them.
use Rattle.std.specs.Prelude.{ℕ, ◌&&◌, ◌||◌, not, Bool, true, false, Option, None, Some, List, map, slice_index_or, bit_or}
use Rattle.std.specs.List.{enumerate_from}
use Rattle.blz_value.specs.declared.attrs.Fd.{Fd}
use Rattle.blz_value.specs.Closure.{within, closure}
use Rattle.blz_value.specs.Arrows.{arrow_from, with_all, bit_if}
use Rattle.topo_graph.specs.declared.dependencies.Holding.{Holding}
use Rattle.topo_graph.specs.declared.lines.Line.{Line}
use Rattle.topo_forms.specs.Data.{has_both}
use Rattle.blz_value.specs.Graph.{is_in}
use Rattle.blz_value.specs.NumberSets.{set_of_numbers}
use Rattle.topo_forms.specs.View.{View, End, origin_of, is_order, has_body, output_at, own_attrs, stream_attrs, streams_into, stream_numbers, component_numbers}

-- the streams into a component
abbrev pub into_set : View → (component : ℕ) → ℕ
into_set v c = set_of_numbers (streams_into v c)

abbrev pub all_into : View → List ℕ
all_into v = map (into_set v) (component_numbers v)

-- told which components are in a cycle: the component hands dependencies on
abbrev pub may_hand_by : View → (cycles : List Bool) → (component : ℕ) → Bool
may_hand_by v cycles c = has_body v c && (not (is_order v c) && not (slice_index_or cycles c false))

abbrev pub line_from : View → (cycles : List Bool) → (into : List ℕ) → (columns : ℕ) → Option End → Line
line_from v cycles into columns None = record { columns = columns; source = true; hands = false; own = 0; before = 0 }
line_from v cycles into columns (Some output) = record {
  columns = columns;
  source = false;
  hands = may_hand_by v cycles output.0;
  own = own_attrs (output_at v output.0 output.1);
  before = slice_index_or into output.0 0;
}

abbrev pub line_by : View → (cycles : List Bool) → (into : List ℕ) → (stream : ℕ) → Line
line_by v cycles into s = line_from v cycles into (stream_attrs v s).bits (origin_of v s)

abbrev pub lines_by : View → (cycles : List Bool) → (into : List ℕ) → List Line
lines_by v cycles into = map (line_by v cycles into) (stream_numbers v)

-- it lacks a column of the dependency, or is a source
abbrev pub alone_by : Fd → Line → Bool
alone_by fd line = not (has_both fd line.columns) || line.source

-- its output hands the dependency on
abbrev pub hands_by : Fd → Line → Bool
hands_by fd line = line.hands && within (bit_or fd.from.bits fd.to.bits) line.own

abbrev pub start_by : Fd → ℕ × Line → ℕ
start_by fd place = bit_if (alone_by fd place.1) place.0

abbrev pub arrow_by : Fd → ℕ × Line → Fd
arrow_by fd place = arrow_from place.1.before (bit_if (hands_by fd place.1) place.0)

-- the streams that uphold a dependency
abbrev pub upholders_by : List Line → Fd → ℕ
upholders_by lines fd = closure (with_all 0 (map (start_by fd) (enumerate_from 0 lines))) (map (arrow_by fd) (enumerate_from 0 lines))

-- a stream upholds the dependency, and has all of `from` only with all of `to`
abbrev pub is_good : Fd → (upheld : ℕ) → ℕ × Line → Bool
is_good fd upheld place = is_in place.0 upheld && (not (within fd.from.bits place.1.columns) || within fd.to.bits place.1.columns)

abbrev pub good_by : Fd → (upheld : ℕ) → ℕ × Line → ℕ
good_by fd upheld place = bit_if (is_good fd upheld place) place.0

abbrev pub good_set : List Line → Fd → (upheld : ℕ) → ℕ
good_set lines fd upheld = with_all 0 (map (good_by fd upheld) (enumerate_from 0 lines))

-- the components into which only such streams go
abbrev pub usable_by : (into : List ℕ) → (good : ℕ) → ℕ
usable_by into good = with_all 0 (map (λ place. bit_if (within place.1 good) place.0) (enumerate_from 0 into))

-- what is found of a dependency
abbrev pub holding_by : List Line → (into : List ℕ) → Fd → Holding
holding_by lines into fd = record { upheld = upholders_by lines fd; usable = usable_by into (good_set lines fd (upholders_by lines fd)) }
