-- The kind Unknown: a part that names what isn't there.
use Rattle.std.specs.Prelude.{◌||◌, not, Bool, false, List, is_none}
use Rattle.std.specs.List.{list_any}
use Rattle.std.specs.Str.{bytes_eq}
use Rattle.bloom_forms.specs.Query.{Name}
use Rattle.topo_forms.specs.declared.topology.SourceEntry.{SourceEntry}
use Rattle.topo_forms.specs.declared.topology.StreamEntry.{StreamEntry}
use Rattle.topo_forms.specs.declared.topology.FdEntry.{FdEntry}
use Rattle.topo_forms.specs.declared.topology.Body.{Body}
use Rattle.topo_forms.specs.declared.topology.Body.TheVariants as body
use Rattle.topo_forms.specs.declared.topology.Stock.{Stock}
use Rattle.topo_forms.specs.declared.topology.Stock.TheVariants as stock
use Rattle.topo_forms.specs.declared.topology.Spot.{Spot}
use Rattle.topo_forms.specs.declared.topology.Declared.{Declared}
use Rattle.topo_forms.specs.Validity.Twice.{names_within}
use Rattle.topo_forms.specs.Sites.{Site, side_of, port_of, output_of}

-- one of the spots names no port
abbrev pub misses_port : List Site → List Spot → Bool
misses_port sites spots = list_any (λ spot. is_none (port_of sites spot)) spots

-- a note's `from` is no port, or its `to` is no output
abbrev pub unknown_note : Site → Declared → Bool
unknown_note site note = is_none (side_of site.ports note.from) || is_none (side_of site.outputs note.to)

-- one of the notes is of a port or of an output that isn't there
abbrev pub misses_note : Site → List Declared → Bool
misses_note site notes = list_any (unknown_note site) notes

-- a gate has a name that is no attribute
abbrev pub misses_attribute : (attributes : List Name) → List Declared → Bool
misses_attribute attributes notes = list_any (λ d. not (names_within d.gate attributes)) notes

-- a name in `split` or `keys` that isn't in `columns`
abbrev pub unknown_in_stock : Stock → Bool
unknown_in_stock (stock.Split columns split) = not (list_any (bytes_eq split) columns)
unknown_in_stock (stock.Latest columns keys) = not (names_within keys columns)
unknown_in_stock (stock.Number columns) = false

abbrev pub unknown_in_body : Body → Bool
unknown_in_body (body.Module file) = false
unknown_in_body (body.Stock s) = unknown_in_stock s
unknown_in_body body.None = false

-- a name in `seal` that is no column of the source; a `to` that names no port
abbrev pub unknown_source : List Site → SourceEntry → Bool
unknown_source sites s = not (names_within s.seal s.columns) || misses_port sites s.to

-- `split` or `keys` with a name that `columns` lacks; `key` or a gate with one that is no attribute; a note of a port or of an output that isn't there
abbrev pub unknown_component : (attributes : List Name) → Site → Bool
unknown_component attributes site =
    unknown_in_body site.entry.body
    || (not (names_within site.entry.key attributes)
    || (misses_attribute attributes site.entry.notes || misses_note site site.entry.notes))

-- a `to` that names no port; a `from` that names no output
abbrev pub unknown_stream : List Site → StreamEntry → Bool
unknown_stream sites s = misses_port sites s.to || is_none (output_of sites s.from)

-- a name that is no attribute
abbrev pub unknown_fd : (attributes : List Name) → FdEntry → Bool
unknown_fd attributes fd = not (names_within fd.from attributes) || not (names_within fd.to attributes)
