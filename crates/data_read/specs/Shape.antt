-- What a source may hold: the type of each column, and of each attribute of its key.
use Rattle.std.specs.Prelude.{ℕ, Option, None, Some, is_some, List, [], map, length, slice_index_or}
use Rattle.blz_value.specs.declared.attrs.Attrs.{Attrs}
use Rattle.topo_forms.specs.Data.{key_places}
use Rattle.blz_value.specs.NumberSets.{below}
use Rattle.topo_forms.specs.Valid.{Validated}
use Rattle.topo_forms.specs.View.{stream_at, source_count}
use Rattle.topo_forms.specs.declared.topology.ColumnType.{ColumnType}
use Rattle.topo_forms.specs.declared.topology.ColumnType.TheVariants.{Any}
use Rattle.topo_forms.specs.declared.topology.SourceEntry.{SourceEntry}
use Rattle.data_read.specs.declared.shape.Shape.{Shape}

-- past the last source stands one without anything
abbrev pub no_source : SourceEntry
no_source = record { name = []; columns = []; types = []; seal = []; to = [] }

-- the type of a source's column
abbrev pub type_at : Validated → (source column : ℕ) → ColumnType
type_at t s column = slice_index_or (slice_index_or t.topology.sources s no_source).types column Any

-- the type of each column
abbrev pub column_types : Validated → (source : ℕ) → List ColumnType
column_types t s = map (type_at t s) (below (length (stream_at t.view s).columns))

-- the type of each attribute of a key, in the order of the attributes' numbers
abbrev pub key_types : Validated → (source : ℕ) → Option Attrs → List ColumnType
key_types t s None = []
key_types t s (Some key) = map (type_at t s) (key_places (stream_at t.view s).columns key.bits)

-- what a row and what a part of a source hold; a source without a key is not sealed and has no parts
abbrev pub shape_of : Validated → (source : ℕ) → Shape
shape_of t s = record { name = (stream_at t.view s).name; types = column_types t s; is_sealed = is_some (stream_at t.view s).key; key = key_types t s (stream_at t.view s).key }

-- the shapes of all sources, in file order
abbrev pub shapes_of : Validated → List Shape
shapes_of t = map (shape_of t) (below (source_count t.view))
