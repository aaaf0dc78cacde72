-- The topology that a document gives, or the path of its first break.
use Rattle.std.specs.Prelude.{ℕ, ◌+◌, List, [], ◌∷◌, ◌++◌, Result, Ok, Err, codes}
use Rattle.std.specs.Fmt.{decimal}
use Rattle.toml.specs.Data.{Members, as_table}
use Rattle.topo_forms.specs.declared.topology.Topology.{Topology}
use Rattle.topo_read.specs.Values.{format_in}
use Rattle.topo_read.specs.Fields.{◌>>=◌, Path, required, optional_list, only_keys}
use Rattle.topo_read.specs.Entries.{source_of, stream_of, fd_of}
use Rattle.topo_read.specs.Component.{component_of}

-- the list of tables under a top key, empty where the key is missing
abbrev pub tables_at : List ℕ → Members → Result (List Members) Path
tables_at key top = optional_list as_table key top

-- a key of an entry, as `component[2].notes`
abbrev pub entry_path : List ℕ → ℕ → List ℕ → Path
entry_path list number key = list ++ codes "[" ++ decimal number ++ codes "]." ++ key

-- an entry that was read as the one of this number in its list
abbrev pub numbered : {X : Type 0} → List ℕ → ℕ → Result X Path → Result X Path
numbered list number (Ok entry) = Ok entry
numbered list number (Err key) = Err (entry_path list number key)

-- the entries of these tables in order, of which the first has this number
abbrev pub entries_from : {X : Type 0} → (Members → Result X Path) → List ℕ → ℕ → List Members → Result (List X) Path
entries_from read list number [] = Ok []
entries_from read list number (table ∷ tables) = do
  first ← numbered list number (read table)
  others ← entries_from read list (number + 1) tables
  Ok (first ∷ others)

-- the entries of all tables, counted from 1
abbrev pub entries : {X : Type 0} → (Members → Result X Path) → List ℕ → List Members → Result (List X) Path
entries read list tables = entries_from read list 1 tables

-- the topology: first the top level, its keys in this order, then the entries. The format of what is
-- read is 2, whichever format the file has
unfoldable pub topology_of : Members → Result Topology Path
topology_of top = do
  format ← required format_in (codes "format") top
  source_tables ← tables_at (codes "source") top
  component_tables ← tables_at (codes "component") top
  stream_tables ← tables_at (codes "stream") top
  fd_tables ← tables_at (codes "fd") top
  only ← only_keys (codes "format" ∷ codes "source" ∷ codes "component" ∷ codes "stream" ∷ codes "fd" ∷ []) top
  sources ← entries (source_of format) (codes "source") source_tables
  components ← entries component_of (codes "component") component_tables
  streams ← entries stream_of (codes "stream") stream_tables
  fds ← entries (fd_of format) (codes "fd") fd_tables
  Ok (record { format = 2; sources = sources; components = components; streams = streams; fds = fds })
