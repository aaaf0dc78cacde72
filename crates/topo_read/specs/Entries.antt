-- Sources, streams and dependencies, each the table of its kind: the entry, or the path of the first break.
use Rattle.std.specs.Prelude.{ℕ, List, [], ◌∷◌, length, map, Option, Some, None, unwrap_or, Result, Ok, Err, codes}
use Rattle.toml.specs.Data.{Members}
use Rattle.topo_forms.specs.declared.topology.SourceEntry.{SourceEntry}
use Rattle.topo_forms.specs.declared.topology.ColumnType.{ColumnType}
use Rattle.topo_forms.specs.declared.topology.ColumnType.TheVariants.{Any}
use Rattle.topo_forms.specs.declared.topology.StreamEntry.{StreamEntry}
use Rattle.topo_forms.specs.declared.topology.FdEntry.{FdEntry}
use Rattle.topo_read.specs.declared.values.Format.{Format}
use Rattle.topo_read.specs.declared.values.Format.TheVariants.{One, Two}
use Rattle.topo_read.specs.Values.{name_in, some_names_in, spot_in, types_in}
use Rattle.topo_read.specs.Tables.{fd_names_at}
use Rattle.topo_read.specs.Fields.{◌>>=◌, Path, or_break, required, optional, optional_list, only_keys}

-- every column may hold a number or a text
abbrev pub any_types : List (List ℕ) → List ColumnType
any_types columns = map (λ column. Any) columns

-- the types that are given, else every column may hold anything
abbrev pub or_any_types : List (List ℕ) → Option (List ColumnType) → List ColumnType
or_any_types columns types = unwrap_or types (any_types columns)

-- the types of as many columns; format 1 has no such key
abbrev pub types_of : Format → List (List ℕ) → Members → Result (List ColumnType) Path
types_of One columns table = Ok (any_types columns)
types_of Two columns table = optional (types_in (length columns)) (codes "types") table >>= (λ types. Ok (or_any_types columns types))

-- the names that are given, else none
abbrev pub or_no_names : Option (List (List ℕ)) → List (List ℕ)
or_no_names names = unwrap_or names []

-- the keys of a source
abbrev pub source_keys : Format → List (List ℕ)
source_keys One = codes "name" ∷ codes "columns" ∷ codes "seal" ∷ codes "to" ∷ []
source_keys Two = codes "name" ∷ codes "columns" ∷ codes "types" ∷ codes "seal" ∷ codes "to" ∷ []

-- a source: its fields in this order, and last the keys that it doesn't have
unfoldable pub source_of : Format → Members → Result SourceEntry Path
source_of format table = do
  name ← required name_in (codes "name") table
  columns ← required some_names_in (codes "columns") table
  types ← types_of format columns table
  seal ← optional some_names_in (codes "seal") table
  to ← optional_list spot_in (codes "to") table
  only ← only_keys (source_keys format) table
  Ok (record { name = name; columns = columns; types = types; seal = or_no_names seal; to = to })

-- a stream, likewise
unfoldable pub stream_of : Members → Result StreamEntry Path
stream_of table = do
  name ← required name_in (codes "name") table
  from ← required spot_in (codes "from") table
  to ← optional_list spot_in (codes "to") table
  only ← only_keys (codes "name" ∷ codes "from" ∷ codes "to" ∷ []) table
  Ok (record { name = name; from = from; to = to })

-- a side of a dependency
abbrev pub fd_names : Format → List ℕ → Members → Result (List (List ℕ)) Path
fd_names format key table = or_break key (fd_names_at format key table)

-- a dependency, likewise
unfoldable pub fd_of : Format → Members → Result FdEntry Path
fd_of format table = do
  from ← fd_names format (codes "from") table
  to ← fd_names format (codes "to") table
  only ← only_keys (codes "from" ∷ codes "to" ∷ []) table
  Ok (record { from = from; to = to })
