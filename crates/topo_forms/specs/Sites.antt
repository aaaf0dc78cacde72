-- Components with their bodies: the programs that they run, and their ports and outputs.
use Rattle.std.specs.Prelude.{ℕ, Option, None, Some, List, [], ◌∷◌, map, length, codes, unwrap_or, slice_index_or, pos}
use Rattle.std.specs.List.{find, flat_map, position_or_len}
use Rattle.std.specs.Option.{option_and_then}
use Rattle.std.specs.Str.{bytes_eq}
use Rattle.blz_value.specs.Names.{place_of}
use Rattle.bloom_forms.specs.declared.module.Collection.{Collection}
use Rattle.bloom_forms.specs.declared.module.Kind.TheVariants.{Input, Output}
use Rattle.bloom_forms.specs.declared.program.Program.{Program}
use Rattle.bloom_forms.specs.declared.program.Program.TheVariants as program
use Rattle.bloom_forms.specs.Form.{Accepted}
use Rattle.bloom_forms.specs.Kinds.{of_kind}
use Rattle.bloom_forms.specs.Program.{output_columns, key_columns}
use Rattle.bloom_forms.specs.Query.{Name}
use Rattle.topo_forms.specs.declared.topology.SourceEntry.{SourceEntry}
use Rattle.topo_forms.specs.declared.topology.ComponentEntry.{ComponentEntry}
use Rattle.topo_forms.specs.declared.topology.Body.{Body}
use Rattle.topo_forms.specs.declared.topology.Body.TheVariants as body
use Rattle.topo_forms.specs.declared.topology.Stock.{Stock}
use Rattle.topo_forms.specs.declared.topology.Stock.TheVariants as stock
use Rattle.topo_forms.specs.declared.topology.ModeName.TheVariants as written
use Rattle.topo_forms.specs.declared.topology.Side.{Side}
use Rattle.topo_forms.specs.declared.topology.Spot.{Spot}
use Rattle.topo_forms.specs.Attributes.{with_columns, source_columns, side_columns}

-- ---- programs

-- the number of a column; past the end where the name is none
abbrev pub column_number : List Name → Name → ℕ
column_number columns name = unwrap_or (place_of columns name) (length columns)

-- a stock body with its columns by numbers
abbrev pub stock_program : Stock → Program
stock_program (stock.Split columns split) = program.Split columns (column_number columns split)
stock_program (stock.Latest columns keys) = program.Latest columns (map (column_number columns) keys)
stock_program (stock.Number columns) = program.Number columns

-- what a body runs, where the modules from its own on are these
abbrev pub program_in : Body → List Accepted → Option Program
program_in (body.Module file) [] = None
program_in (body.Module file) (m ∷ modules) = Some (program.Module m)
program_in (body.Stock s) modules = Some (stock_program s)
program_in body.None modules = None

-- the modules after that of a body
abbrev pub modules_after : Body → List Accepted → List Accepted
modules_after (body.Module file) [] = []
modules_after (body.Module file) (m ∷ modules) = modules
modules_after (body.Stock s) modules = modules
modules_after body.None modules = modules

-- ---- ports and outputs

abbrev pub side : Name → List Name → Side
side name columns = record { name = name; columns = columns }

abbrev pub collection_side : Collection → Side
collection_side c = side c.name c.columns

-- the ports of a program
abbrev pub program_ports : Program → List Side
program_ports (program.Module m) = map collection_side (of_kind Input m.form.collections)
program_ports (program.Split columns split) = side (codes "in") columns ∷ []
program_ports (program.Latest columns keys) = side (codes "put") columns ∷ side (codes "ask") (key_columns columns keys) ∷ []
program_ports (program.Number columns) = side (codes "in") columns ∷ []

-- the outputs of a program
abbrev pub program_outputs : Program → List Side
program_outputs (program.Module m) = map collection_side (of_kind Output m.form.collections)
program_outputs (program.Split columns split) = map (side (codes "out")) (output_columns (program.Split columns split))
program_outputs (program.Latest columns keys) = map (side (codes "out")) (output_columns (program.Latest columns keys))
program_outputs (program.Number columns) = map (side (codes "out")) (output_columns (program.Number columns))

-- the ports of a component: those of its program, and without one those that are declared
abbrev pub ports_with : ComponentEntry → Option Program → List Side
ports_with c None = c.inputs
ports_with c (Some p) = program_ports p

-- the outputs of a component: those of its program, and without one those that are declared
abbrev pub outputs_with : ComponentEntry → Option Program → List Side
outputs_with c None = c.outputs
outputs_with c (Some p) = program_outputs p

-- ---- components with their bodies

-- a component as it is written, with what it runs, and its ports and outputs
pub record Site : Type 0 where
  pub entry : ComponentEntry
  pub program : Option Program
  pub ports : List Side
  pub outputs : List Side

abbrev pub site_with : ComponentEntry → Option Program → Site
site_with c p = record { entry = c; program = p; ports = ports_with c p; outputs = outputs_with c p }

-- the components with their bodies, where the modules of those with one are these
abbrev pub sites_of : List ComponentEntry → List Accepted → List Site
sites_of [] modules = []
sites_of (c ∷ components) modules = site_with c (program_in c.body modules) ∷ sites_of components (modules_after c.body modules)

-- ---- by name

abbrev pub no_entry : ComponentEntry
no_entry = record { name = []; body = body.None; inputs = []; outputs = []; notes = []; replicas = pos 0; mode = written.Free; key = [] }

abbrev pub no_site : Site
no_site = record { entry = no_entry; program = None; ports = []; outputs = [] }

-- the number of the first component of this name; where there is none, how many there are
abbrev pub site_number : List Site → Name → ℕ
site_number sites name = position_or_len (λ site. bytes_eq site.entry.name name) sites

-- the component with a number, and one without a port or an output past the end
abbrev pub site_at : List Site → ℕ → Site
site_at sites c = slice_index_or sites c no_site

abbrev pub site_named : List Site → Name → Site
site_named sites name = site_at sites (site_number sites name)

-- the port or output with a number, and one without a column past the end
abbrev pub side_at : List Side → ℕ → Side
side_at sides n = slice_index_or sides n (side [] [])

-- the number of the first port or output of this name; where there is none, how many there are
abbrev pub side_number : List Side → Name → ℕ
side_number sides name = position_or_len (λ s. bytes_eq s.name name) sides

-- the port that a spot names, by numbers
abbrev pub port_end : List Site → Spot → ℕ × ℕ
port_end sites spot = (site_number sites spot.component, side_number (site_named sites spot.component).ports spot.port)

-- the output that a spot names, by numbers
abbrev pub output_end : List Site → Spot → ℕ × ℕ
output_end sites spot = (site_number sites spot.component, side_number (site_named sites spot.component).outputs spot.port)

-- ---- attributes

-- the columns of ports, in component and port order
abbrev pub site_columns : List Site → List Name
site_columns sites = flat_map (λ site. side_columns site.ports) sites

-- the attributes of sources and components: columns of sources first, then those of ports
abbrev pub attributes_in : List SourceEntry → List Site → List Name
attributes_in sources sites = with_columns (with_columns [] (source_columns sources)) (site_columns sites)

-- the number of an attribute; past the end where the name is none
abbrev pub attribute_number : List Name → Name → ℕ
attribute_number attributes name = unwrap_or (place_of attributes name) (length attributes)

-- ---- ports and outputs by name, where they are there

-- the first component of this name
abbrev pub site_of : List Site → Name → Option Site
site_of sites name = find (λ site. bytes_eq site.entry.name name) sites

-- the first port or output of this name
abbrev pub side_of : List Side → Name → Option Side
side_of sides name = find (λ s. bytes_eq s.name name) sides

-- the port that a spot names
abbrev pub port_of : List Site → Spot → Option Side
port_of sites spot = option_and_then (λ site. side_of site.ports spot.port) (site_of sites spot.component)

-- the output that a spot names
abbrev pub output_of : List Site → Spot → Option Side
output_of sites spot = option_and_then (λ site. side_of site.outputs spot.port) (site_of sites spot.component)
