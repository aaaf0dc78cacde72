-- The attributes of a topology: the names of columns, numbered by first occurrence.
use Rattle.std.specs.Prelude.{List}
use Rattle.std.specs.List.{flat_map, fold}
use Rattle.blz_value.specs.Names.{added}
use Rattle.topo_forms.specs.declared.topology.SourceEntry.{SourceEntry}
use Rattle.topo_forms.specs.declared.topology.Side.{Side}
use Rattle.bloom_forms.specs.Query.{Name}

-- the columns of sources, in file order
abbrev pub source_columns : List SourceEntry → List Name
source_columns sources = flat_map (λ s. s.columns) sources

-- the columns of ports or outputs, in their order
abbrev pub side_columns : List Side → List Name
side_columns sides = flat_map (λ s. s.columns) sides

-- the attributes with those of further columns: each new name goes last
abbrev pub with_columns : List Name → List Name → List Name
with_columns attributes columns = fold added attributes columns
