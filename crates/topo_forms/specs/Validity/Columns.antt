-- The kind Columns: a source or a stream that goes to a port with other columns, and a stock body whose output would have a column twice.
use Rattle.std.specs.Prelude.{not, ◌||◌, Bool, false, codes, List, Option, Some, None}
use Rattle.std.specs.Cmp.Lexicographic.{pointwise}
use Rattle.std.specs.List.{list_any, remove}
use Rattle.std.specs.Option.{option_map_or}
use Rattle.std.specs.Str.{bytes_eq}
use Rattle.bloom_forms.specs.Query.{Name}
use Rattle.topo_forms.specs.declared.topology.SourceEntry.{SourceEntry}
use Rattle.topo_forms.specs.declared.topology.StreamEntry.{StreamEntry}
use Rattle.topo_forms.specs.declared.topology.Body.{Body}
use Rattle.topo_forms.specs.declared.topology.Body.TheVariants as body
use Rattle.topo_forms.specs.declared.topology.Stock.{Stock}
use Rattle.topo_forms.specs.declared.topology.Stock.TheVariants as stock
use Rattle.topo_forms.specs.declared.topology.Side.{Side}
use Rattle.topo_forms.specs.declared.topology.Spot.{Spot}
use Rattle.topo_forms.specs.Sites.{Site, column_number, port_of, output_of}

-- the port is there, and it doesn't have these names in this order
abbrev pub differs : List Name → Option Side → Bool
differs columns None = false
differs columns (Some port) = not (pointwise bytes_eq columns port.columns)

-- one of the spots is a port with other columns
abbrev pub meets_others : List Site → List Name → List Spot → Bool
meets_others sites columns spots = list_any (λ spot. differs columns (port_of sites spot)) spots

-- one of the columns has the name
abbrev pub has_column : List Name → Name → Bool
has_column columns name = list_any (bytes_eq name) columns

-- a column has the name of one that the body adds: of a split `at` or `word`, the split column aside, and of a number `n`
abbrev pub clashes_in_stock : Stock → Bool
clashes_in_stock (stock.Split columns split) = has_column (remove columns (column_number columns split)) (codes "at") || has_column (remove columns (column_number columns split)) (codes "word")
clashes_in_stock (stock.Latest columns keys) = false
clashes_in_stock (stock.Number columns) = has_column columns (codes "n")

abbrev pub clashes_in_body : Body → Bool
clashes_in_body (body.Module file) = false
clashes_in_body (body.Stock s) = clashes_in_stock s
clashes_in_body body.None = false

-- its columns aren't those of a port that it goes to
abbrev pub columns_source : List Site → SourceEntry → Bool
columns_source sites s = meets_others sites s.columns s.to

-- a column of its output would stand twice
abbrev pub columns_component : Site → Bool
columns_component site = clashes_in_body site.entry.body

-- the columns of its output aren't those of a port that it goes to
abbrev pub columns_stream : List Site → StreamEntry → Bool
columns_stream sites s = option_map_or (λ output. meets_others sites output.columns s.to) (output_of sites s.from) false
