-- A source by its parts: the columns with their types, and what comes after them.
use Rattle.std.specs.Prelude.{List, ℕ, Result, Ok, Err, codes}
use Rattle.toml.specs.Data.{Members}
use Rattle.topo_forms.specs.declared.topology.SourceEntry.{SourceEntry}
use Rattle.topo_read.specs.declared.entries.Leading.{Leading}
use Rattle.topo_read.specs.declared.entries.Typed.{Typed}
use Rattle.topo_read.specs.declared.values.Format.{Format}
use Rattle.topo_read.specs.Values.{name_in, some_names_in, spot_in}
use Rattle.topo_read.specs.Entries.{types_of, or_no_names, source_keys}
use Rattle.topo_read.specs.Fields.{◌>>=◌, Path, required, optional, optional_list, only_keys}

-- the columns with their types
unfoldable pub typed_of : Format → Members → Result Typed Path
typed_of format table = do
  columns ← required some_names_in (codes "columns") table
  types ← types_of format columns table
  Ok (record { columns = columns; types = types })

-- the last fields of a source, and the keys that it doesn't have
unfoldable pub leading_of : Format → Members → Result Leading Path
leading_of format table = do
  seal ← optional some_names_in (codes "seal") table
  to ← optional_list spot_in (codes "to") table
  only ← only_keys (source_keys format) table
  Ok (record { seal = or_no_names seal; to = to })

-- the source of these parts
abbrev pub whole_of : List ℕ → Typed → Leading → SourceEntry
whole_of name typed leading = record { name = name; columns = typed.columns; types = typed.types; seal = leading.seal; to = leading.to }

-- a source, a part after the other; it is the same source
unfoldable pub by_parts : Format → Members → Result SourceEntry Path
by_parts format table = do
  name ← required name_in (codes "name") table
  typed ← typed_of format table
  leading ← leading_of format table
  Ok (whole_of name typed leading)
