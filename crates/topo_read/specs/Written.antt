-- The TOML table that a topology is written as: every key that may be missing stands only where its value isn't the one that a missing key gives.
use Rattle.std.specs.Prelude.{ℕ, ℤ, pos, negsuc, Bool, true, false, ◌==◌, if◌then◌else◌, List, [], ◌∷◌, ◌++◌, Option, None, Some, codes}
use Rattle.std.specs.List.{list_all}
use Rattle.toml.specs.Data.{Data, string, integer, Members}
use Rattle.topo_forms.specs.declared.topology.Spot.{Spot}
use Rattle.topo_forms.specs.declared.topology.ColumnType.{ColumnType}
use Rattle.topo_forms.specs.declared.topology.ColumnType.TheVariants as type
use Rattle.topo_forms.specs.declared.topology.SourceEntry.{SourceEntry}
use Rattle.topo_forms.specs.declared.topology.Side.{Side}
use Rattle.topo_forms.specs.declared.topology.NoteName.{NoteName}
use Rattle.topo_forms.specs.declared.topology.NoteName.TheVariants as note
use Rattle.topo_forms.specs.declared.topology.Declared.{Declared}
use Rattle.topo_forms.specs.declared.topology.Stock.{Stock}
use Rattle.topo_forms.specs.declared.topology.Stock.TheVariants as stock
use Rattle.topo_forms.specs.declared.topology.Body.{Body}
use Rattle.topo_forms.specs.declared.topology.Body.TheVariants as body
use Rattle.topo_forms.specs.declared.topology.ModeName.{ModeName}
use Rattle.topo_forms.specs.declared.topology.ModeName.TheVariants as mode
use Rattle.topo_forms.specs.declared.topology.ComponentEntry.{ComponentEntry}
use Rattle.topo_forms.specs.declared.topology.StreamEntry.{StreamEntry}
use Rattle.topo_forms.specs.declared.topology.FdEntry.{FdEntry}
use Rattle.topo_forms.specs.declared.topology.Topology.{Topology}
use Rattle.topo_read.specs.Fill.{Field, table_with, table_data, list_data, unless_empty}

-- ---- values

-- `component.port`
abbrev pub spot_data : Spot → Data
spot_data spot = string (spot.component ++ codes "." ++ spot.port)

abbrev pub type_data : ColumnType → Data
type_data type.Int = string (codes "int")
type_data type.Text = string (codes "text")
type_data type.Any = string (codes "any")

abbrev pub note_data : NoteName → Data
note_data note.CR = string (codes "CR")
note_data note.CW = string (codes "CW")
note_data note.OR = string (codes "OR")
note_data note.OW = string (codes "OW")

-- ---- sources

abbrev pub is_any : ColumnType → Bool
is_any type.Int = false
is_any type.Text = false
is_any type.Any = true

-- types that aren't all `any`
abbrev pub types_data : List ColumnType → Option Data
types_data types = if list_all is_any types then None else Some (list_data type_data types)

abbrev pub source_fields : SourceEntry → List Field
source_fields s =
    (codes "name", Some (string s.name))
    ∷ (codes "columns", Some (list_data string s.columns))
    ∷ (codes "types", types_data s.types)
    ∷ (codes "seal", unless_empty string s.seal)
    ∷ (codes "to", unless_empty spot_data s.to)
    ∷ []

-- ---- components

abbrev pub side_fields : Side → List Field
side_fields side = (codes "name", Some (string side.name)) ∷ (codes "columns", Some (list_data string side.columns)) ∷ []

abbrev pub side_data : Side → Data
side_data side = table_data (side_fields side)

abbrev pub declared_fields : Declared → List Field
declared_fields d =
    (codes "from", Some (string d.from))
    ∷ (codes "to", Some (string d.to))
    ∷ (codes "note", Some (note_data d.note))
    ∷ (codes "gate", unless_empty string d.gate)
    ∷ []

abbrev pub declared_data : Declared → Data
declared_data d = table_data (declared_fields d)

abbrev pub module_data : Body → Option Data
module_data (body.Module file) = Some (string file)
module_data (body.Stock s) = None
module_data body.None = None

-- the name of a stock body, its columns, and the fields of Split and of Latest
abbrev pub stock_name : Stock → List ℕ
stock_name (stock.Split columns split) = codes "split"
stock_name (stock.Latest columns keys) = codes "latest"
stock_name (stock.Number columns) = codes "number"

abbrev pub stock_columns : Stock → List (List ℕ)
stock_columns (stock.Split columns split) = columns
stock_columns (stock.Latest columns keys) = columns
stock_columns (stock.Number columns) = columns

abbrev pub stock_split : Stock → Option Data
stock_split (stock.Split columns split) = Some (string split)
stock_split (stock.Latest columns keys) = None
stock_split (stock.Number columns) = None

abbrev pub stock_keys : Stock → Option Data
stock_keys (stock.Split columns split) = None
stock_keys (stock.Latest columns keys) = Some (list_data string keys)
stock_keys (stock.Number columns) = None

-- what a stock body has at a key, and nothing without one
abbrev pub of_stock : (Stock → Option Data) → Body → Option Data
of_stock field (body.Module file) = None
of_stock field (body.Stock s) = field s
of_stock field body.None = None

abbrev pub is_one : ℤ → Bool
is_one (pos n) = n == 1
is_one (negsuc n) = false

-- replicas that aren't one
abbrev pub replicas_data : ℤ → Option Data
replicas_data count = if is_one count then None else Some (integer count)

-- a mode that isn't Free
abbrev pub mode_data : ModeName → Option Data
mode_data mode.Free = None
mode_data mode.Pass = Some (string (codes "pass"))
mode_data mode.Seal = Some (string (codes "seal"))
mode_data mode.Order = Some (string (codes "order"))

-- a body's fields
abbrev pub body_fields : Body → List Field
body_fields b =
    (codes "module", module_data b)
    ∷ (codes "stock", of_stock (λ s. Some (string (stock_name s))) b)
    ∷ (codes "columns", of_stock (λ s. Some (list_data string (stock_columns s))) b)
    ∷ (codes "split", of_stock stock_split b)
    ∷ (codes "keys", of_stock stock_keys b)
    ∷ []

abbrev pub component_fields : ComponentEntry → List Field
component_fields c =
    ((codes "name", Some (string c.name)) ∷ body_fields c.body) ++ (
    (codes "inputs", unless_empty side_data c.inputs)
    ∷ (codes "outputs", unless_empty side_data c.outputs)
    ∷ (codes "notes", unless_empty declared_data c.notes)
    ∷ (codes "replicas", replicas_data c.replicas)
    ∷ (codes "mode", mode_data c.mode)
    ∷ (codes "key", unless_empty string c.key)
    ∷ []
    )

-- ---- streams and dependencies

abbrev pub stream_fields : StreamEntry → List Field
stream_fields s =
    (codes "name", Some (string s.name))
    ∷ (codes "from", Some (spot_data s.from))
    ∷ (codes "to", unless_empty spot_data s.to)
    ∷ []

abbrev pub fd_fields : FdEntry → List Field
fd_fields fd = (codes "from", Some (list_data string fd.from)) ∷ (codes "to", Some (list_data string fd.to)) ∷ []

-- ---- the whole, in format 2

abbrev pub topology_fields : Topology → List Field
topology_fields t =
    (codes "format", Some (integer (pos 2)))
    ∷ (codes "source", unless_empty (λ s. table_data (source_fields s)) t.sources)
    ∷ (codes "component", unless_empty (λ c. table_data (component_fields c)) t.components)
    ∷ (codes "stream", unless_empty (λ s. table_data (stream_fields s)) t.streams)
    ∷ (codes "fd", unless_empty (λ fd. table_data (fd_fields fd)) t.fds)
    ∷ []

unfoldable pub table_of : Topology → Members
table_of t = table_with (topology_fields t)
