-- A topology by its parts: the steps after some of its tables were found.
use Rattle.std.specs.Prelude.{List, [], ◌∷◌, Result, Ok, Err, codes}
use Rattle.toml.specs.Data.{Members}
use Rattle.topo_forms.specs.declared.topology.Topology.{Topology}
use Rattle.topo_read.specs.declared.values.Format.{Format}
use Rattle.topo_read.specs.Fields.{◌>>=◌, Path, only_keys}
use Rattle.topo_read.specs.Entries.{source_of, stream_of, fd_of}
use Rattle.topo_read.specs.Component.{component_of}
use Rattle.topo_read.specs.Topology.{tables_at, entries}

-- the last steps: the entries of these tables
abbrev pub from_tables : Format → List Members → List Members → List Members → List Members → Result Topology Path
from_tables format source_tables component_tables stream_tables fd_tables = do
  sources ← entries (source_of format) (codes "source") source_tables
  components ← entries component_of (codes "component") component_tables
  streams ← entries stream_of (codes "stream") stream_tables
  fds ← entries (fd_of format) (codes "fd") fd_tables
  Ok (record { format = 2; sources = sources; components = components; streams = streams; fds = fds })

-- the steps after the tables of sources and components
abbrev pub from_streams : Format → List Members → List Members → Members → Result Topology Path
from_streams format source_tables component_tables top = do
  stream_tables ← tables_at (codes "stream") top
  fd_tables ← tables_at (codes "fd") top
  only ← only_keys (codes "format" ∷ codes "source" ∷ codes "component" ∷ codes "stream" ∷ codes "fd" ∷ []) top
  from_tables format source_tables component_tables stream_tables fd_tables
