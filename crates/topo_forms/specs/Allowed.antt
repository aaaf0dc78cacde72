-- Topologies whose every field is one that a topology file allows.
use Rattle.std.specs.Prelude.{ℕ, ◌==◌, ◌&&◌, ◌||◌, nat_le, Bool, true, false, IsTrue, List, [], ◌∷◌, length}
use Rattle.std.specs.List.{list_all}
use Rattle.blz_value.specs.Name.{is_name}
use Rattle.bloom_forms.specs.Query.{Name}
use Rattle.topo_forms.specs.declared.topology.SourceEntry.{SourceEntry}
use Rattle.topo_forms.specs.declared.topology.ComponentEntry.{ComponentEntry}
use Rattle.topo_forms.specs.declared.topology.StreamEntry.{StreamEntry}
use Rattle.topo_forms.specs.declared.topology.FdEntry.{FdEntry}
use Rattle.topo_forms.specs.declared.topology.Body.{Body}
use Rattle.topo_forms.specs.declared.topology.Body.TheVariants as body
use Rattle.topo_forms.specs.declared.topology.Stock.{Stock}
use Rattle.topo_forms.specs.declared.topology.Stock.TheVariants as stock
use Rattle.topo_forms.specs.declared.topology.Declared.{Declared}
use Rattle.topo_forms.specs.declared.topology.ModeName.{ModeName}
use Rattle.topo_forms.specs.declared.topology.ModeName.TheVariants as mode
use Rattle.topo_forms.specs.declared.topology.NoteName.{NoteName}
use Rattle.topo_forms.specs.declared.topology.NoteName.TheVariants as note
use Rattle.topo_forms.specs.declared.topology.Side.{Side}
use Rattle.topo_forms.specs.declared.topology.Spot.{Spot}
use Rattle.topo_forms.specs.declared.topology.Topology.{Topology}

-- a list without an element
abbrev pub is_empty : {X : Type 0} → List X → Bool
is_empty [] = true
is_empty (x ∷ xs) = false

-- a list of names
abbrev pub are_names : List Name → Bool
are_names names = list_all is_name names

-- one name or more
abbrev pub are_some_names : List Name → Bool
are_some_names names = nat_le 1 (length names) && are_names names

abbrev pub is_spot : Spot → Bool
is_spot spot = is_name spot.component && is_name spot.port

abbrev pub is_side : Side → Bool
is_side s = is_name s.name && are_names s.columns

-- a type for each column
abbrev pub allows_source : SourceEntry → Bool
allows_source s =
    is_name s.name && (are_some_names s.columns && (length s.types == length s.columns && (are_names s.seal && list_all is_spot s.to)))

abbrev pub allows_stock : Stock → Bool
allows_stock (stock.Split columns split) = are_names columns && is_name split
allows_stock (stock.Latest columns keys) = are_names columns && are_some_names keys
allows_stock (stock.Number columns) = are_names columns

-- the file of a module has a name of 1 to 255 bytes; with a body no port and no output is declared
abbrev pub allows_body : Body → (inputs outputs : List Side) → Bool
allows_body (body.Module file) inputs outputs = nat_le 1 (length file) && (nat_le (length file) 255 && (is_empty inputs && is_empty outputs))
allows_body (body.Stock s) inputs outputs = allows_stock s && (is_empty inputs && is_empty outputs)
allows_body body.None inputs outputs = list_all is_side inputs && list_all is_side outputs

-- a gate stands with an O note only
abbrev pub allows_gate : NoteName → List Name → Bool
allows_gate note.CR gate = is_empty gate
allows_gate note.CW gate = is_empty gate
allows_gate note.OR gate = are_names gate
allows_gate note.OW gate = are_names gate

abbrev pub allows_note : Declared → Bool
allows_note d = is_name d.from && (is_name d.to && allows_gate d.note d.gate)

-- a key stands exactly with Pass and Seal
abbrev pub allows_key : ModeName → List Name → Bool
allows_key mode.Free key = is_empty key
allows_key mode.Pass key = are_some_names key
allows_key mode.Seal key = are_some_names key
allows_key mode.Order key = is_empty key

abbrev pub allows_component : ComponentEntry → Bool
allows_component c = is_name c.name && (allows_body c.body c.inputs c.outputs && (list_all allows_note c.notes && allows_key c.mode c.key))

abbrev pub allows_stream : StreamEntry → Bool
allows_stream s = is_name s.name && (is_spot s.from && list_all is_spot s.to)

-- as many names on a side as the format allows: one in format 1, up to eight in format 2
abbrev pub most_names : (format : ℕ) → Bool → ℕ
most_names format true = 1
most_names format false = 8

abbrev pub allows_side : (format : ℕ) → List Name → Bool
allows_side format names = are_some_names names && nat_le (length names) (most_names format (format == 1))

abbrev pub allows_fd : (format : ℕ) → FdEntry → Bool
allows_fd format fd = allows_side format fd.from && allows_side format fd.to

-- each field is one that a topology file allows
abbrev pub is_allowed : Topology → Bool
is_allowed t =
    (t.format == 1 || t.format == 2)
    && (list_all allows_source t.sources && (list_all allows_component t.components && (list_all allows_stream t.streams && list_all (allows_fd t.format) t.fds)))

abbrev pub IsAllowed : Topology → Type 0
IsAllowed t = IsTrue (is_allowed t)
