-- A stream by its parts: its name, and what comes after it.
use Rattle.std.specs.Prelude.{[], ◌∷◌, Result, Ok, Err, codes}
use Rattle.toml.specs.Data.{Members}
use Rattle.topo_forms.specs.declared.topology.StreamEntry.{StreamEntry}
use Rattle.topo_read.specs.declared.entries.Flow.{Flow}
use Rattle.topo_read.specs.Values.{name_in, spot_in}
use Rattle.topo_read.specs.Fields.{◌>>=◌, Path, required, optional_list, only_keys}

-- the fields after the name, and the keys that a stream doesn't have
unfoldable pub flow_of : Members → Result Flow Path
flow_of table = do
  from ← required spot_in (codes "from") table
  to ← optional_list spot_in (codes "to") table
  only ← only_keys (codes "name" ∷ codes "from" ∷ codes "to" ∷ []) table
  Ok (record { from = from; to = to })

-- a stream, a part after the other; it is the same stream
unfoldable pub by_parts : Members → Result StreamEntry Path
by_parts table = do
  name ← required name_in (codes "name") table
  flow ← flow_of table
  Ok (record { name = name; from = flow.from; to = flow.to })
