-- The kind Twice: a part that repeats an earlier one, or that holds something twice.
use Rattle.std.specs.Prelude.{◌==◌, ◌&&◌, ◌||◌, not, Bool, false, List, length, map}
use Rattle.std.specs.List.{list_all, list_any}
use Rattle.std.specs.Set.{distinct_count}
use Rattle.std.specs.Str.{bytes_eq}
use Rattle.bloom_forms.specs.Query.{Name}
use Rattle.topo_forms.specs.declared.topology.SourceEntry.{SourceEntry}
use Rattle.topo_forms.specs.declared.topology.ComponentEntry.{ComponentEntry}
use Rattle.topo_forms.specs.declared.topology.Body.{Body}
use Rattle.topo_forms.specs.declared.topology.Body.TheVariants as body
use Rattle.topo_forms.specs.declared.topology.Stock.{Stock}
use Rattle.topo_forms.specs.declared.topology.Stock.TheVariants as stock
use Rattle.topo_forms.specs.declared.topology.StreamEntry.{StreamEntry}
use Rattle.topo_forms.specs.declared.topology.FdEntry.{FdEntry}
use Rattle.topo_forms.specs.declared.topology.Side.{Side}
use Rattle.topo_forms.specs.declared.topology.Spot.{Spot}
use Rattle.topo_forms.specs.declared.topology.Declared.{Declared}

-- nothing stands twice: the list has as many elements as distinct ones
abbrev pub are_distinct : {X : Type 0} → (X → X → Bool) → List X → Bool
are_distinct same xs = distinct_count same xs == length xs

-- no name stands twice
abbrev pub names_are_distinct : List Name → Bool
names_are_distinct names = are_distinct bytes_eq names

-- both names of two pairs are the same
abbrev pub same_pair : Name × Name → Name × Name → Bool
same_pair a b = bytes_eq a.0 b.0 && bytes_eq a.1 b.1

-- no pair of names stands twice
abbrev pub pairs_are_distinct : List (Name × Name) → Bool
pairs_are_distinct pairs = are_distinct same_pair pairs

-- the component of a spot and its port or output
abbrev pub spot_pair : Spot → Name × Name
spot_pair spot = (spot.component, spot.port)

-- the port and the output of a note
abbrev pub note_pair : Declared → Name × Name
note_pair note = (note.from, note.to)

-- no spot stands twice
abbrev pub spots_are_distinct : List Spot → Bool
spots_are_distinct spots = pairs_are_distinct (map spot_pair spots)

-- no two notes have one `from` and `to`
abbrev pub notes_are_distinct : List Declared → Bool
notes_are_distinct notes = pairs_are_distinct (map note_pair notes)

-- no two ports, or outputs, have one name
abbrev pub sides_are_distinct : List Side → Bool
sides_are_distinct sides = names_are_distinct (map (λ s. s.name) sides)

-- a port or an output with a column twice
abbrev pub repeats_column : List Side → Bool
repeats_column sides = list_any (λ s. not (names_are_distinct s.columns)) sides

-- two ports, or two outputs, of one name, or a column twice in one of them
abbrev pub repeat_in : List Side → Bool
repeat_in sides = not (sides_are_distinct sides) || repeats_column sides

-- a column twice in `columns` or in `keys` of a stock body
abbrev pub repeats_in_stock : Stock → Bool
repeats_in_stock (stock.Split columns split) = not (names_are_distinct columns)
repeats_in_stock (stock.Latest columns keys) = not (names_are_distinct columns) || not (names_are_distinct keys)
repeats_in_stock (stock.Number columns) = not (names_are_distinct columns)

-- the same of a body. A module that was checked repeats nothing, and a clash in the outputs of a stock body is of the kind Columns
abbrev pub repeats_in_body : Body → Bool
repeats_in_body (body.Module file) = false
repeats_in_body (body.Stock s) = repeats_in_stock s
repeats_in_body body.None = false

-- one of the sources has the name
abbrev pub has_source : List SourceEntry → Name → Bool
has_source sources name = list_any (λ s. bytes_eq s.name name) sources

-- one of the components has the name
abbrev pub has_component : List ComponentEntry → Name → Bool
has_component components name = list_any (λ c. bytes_eq c.name name) components

-- one of the streams has the name
abbrev pub has_stream : List StreamEntry → Name → Bool
has_stream streams name = list_any (λ s. bytes_eq s.name name) streams

-- one of the streams comes from the output
abbrev pub has_start : List StreamEntry → Spot → Bool
has_start streams output = list_any (λ s. same_pair (spot_pair s.from) (spot_pair output)) streams

-- each name of the first list is one of the second
abbrev pub names_within : List Name → List Name → Bool
names_within names others = list_all (λ name. list_any (bytes_eq name) others) names

-- two lists have the same names
abbrev pub same_names : List Name → List Name → Bool
same_names a b = names_within a b && names_within b a

-- two dependencies have the same two sets
abbrev pub same_fd : FdEntry → FdEntry → Bool
same_fd a b = same_names a.from b.from && same_names a.to b.to

-- one of the dependencies has the same two sets
abbrev pub has_fd : List FdEntry → FdEntry → Bool
has_fd fds fd = list_any (same_fd fd) fds

-- an earlier source's name; a column twice; a `to` entry twice; a name twice in `seal`
abbrev pub twice_source : List SourceEntry → SourceEntry → Bool
twice_source earlier s =
    has_source earlier s.name
    || (not (names_are_distinct s.columns)
    || (not (spots_are_distinct s.to)
    || not (names_are_distinct s.seal)))

-- a gate with a name twice
abbrev pub repeats_in_gate : List Declared → Bool
repeats_in_gate notes = list_any (λ d. not (names_are_distinct d.gate)) notes

-- two notes of one path; a name twice in `key` or in a gate
abbrev pub repeats_in_notes : ComponentEntry → Bool
repeats_in_notes c = not (notes_are_distinct c.notes) || (not (names_are_distinct c.key) || repeats_in_gate c.notes)

-- the name of a component before it; ports, or outputs, that share a name; a column that stands again in a port, an output, `columns` or `keys`; two notes of one path; a name that stands again in `key` or in a gate
abbrev pub twice_component : List ComponentEntry → ComponentEntry → Bool
twice_component earlier c =
    has_component earlier c.name
    || (repeat_in c.inputs || (repeat_in c.outputs
    || (repeats_in_body c.body || repeats_in_notes c)))

-- a source's name; an earlier stream's name; an earlier stream's `from`; a `to` entry twice
abbrev pub twice_stream : List SourceEntry → List StreamEntry → StreamEntry → Bool
twice_stream sources earlier s =
    has_source sources s.name
    || (has_stream earlier s.name
    || (has_start earlier s.from
    || not (spots_are_distinct s.to)))

-- a name twice in one list; the same two sets as an earlier dependency
abbrev pub twice_fd : List FdEntry → FdEntry → Bool
twice_fd earlier fd =
    not (names_are_distinct fd.from)
    || (not (names_are_distinct fd.to)
    || has_fd earlier fd)
