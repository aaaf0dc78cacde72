-- What is written nests few levels deep.
use Rattle.std.proofs.Common.{◌≡◌, ◌≤◌, ◌&&◌, ℕ, ℤ, suc, Bool, true, false, if◌then◌else◌, Option, None, Some, List, [], ◌∷◌, map, arith}
use Rattle.std.specs.List.{list_all}
use Rattle.toml.specs.Data.{Data, string, integer, depth, items_depth, members_depth}
use Rattle.toml.specs.View.{items_of}
use Rattle.topo_forms.specs.declared.topology.Body.{Body}
use Rattle.topo_forms.specs.declared.topology.Body.TheVariants as body
use Rattle.topo_forms.specs.declared.topology.ColumnType.{ColumnType}
use Rattle.topo_forms.specs.declared.topology.ColumnType.TheVariants as type
use Rattle.topo_forms.specs.declared.topology.ComponentEntry.{ComponentEntry}
use Rattle.topo_forms.specs.declared.topology.Declared.{Declared}
use Rattle.topo_forms.specs.declared.topology.FdEntry.{FdEntry}
use Rattle.topo_forms.specs.declared.topology.ModeName.{ModeName}
use Rattle.topo_forms.specs.declared.topology.ModeName.TheVariants as mode
use Rattle.topo_forms.specs.declared.topology.NoteName.{NoteName}
use Rattle.topo_forms.specs.declared.topology.NoteName.TheVariants as note
use Rattle.topo_forms.specs.declared.topology.Side.{Side}
use Rattle.topo_forms.specs.declared.topology.SourceEntry.{SourceEntry}
use Rattle.topo_forms.specs.declared.topology.Stock.{Stock}
use Rattle.topo_forms.specs.declared.topology.Stock.TheVariants as stock
use Rattle.topo_forms.specs.declared.topology.StreamEntry.{StreamEntry}
use Rattle.topo_forms.specs.declared.topology.Topology.{Topology}
use Rattle.topo_read.specs.Fill.{Field, table_with, table_data, list_data, unless_empty}
use Rattle.topo_read.specs.Written.{spot_data, type_data, note_data, is_any, types_data, source_fields, side_fields, side_data, declared_fields, declared_data, module_data, stock_name, stock_columns, stock_split, stock_keys, of_stock, is_one, replicas_data, mode_data, body_fields, component_fields, stream_fields, fd_fields, topology_fields, table_of}
use Rattle.topo_read.proofs.Filled.{IsShallow, AreShallow, table_depth, list_depth}

-- ---- lists

list_shallow : {X : Type 0} (n : ℕ) (write : X → Data) (xs : List X) → ((x : X) → depth (write x) ≤ n) → depth (list_data write xs) ≤ suc n
list_shallow n write xs each = let low = list_depth n write xs each in omega (arith, low)

unless_shallow : {X : Type 0} (n : ℕ) (write : X → Data) (xs : List X) → ((x : X) → depth (write x) ≤ n) → IsShallow (suc n) (unless_empty write xs)
unless_shallow n write [] each = tt
unless_shallow n write (x ∷ xs) each = list_shallow n write (x ∷ xs) each

texts : (n : ℕ) (names : List (List ℕ)) → depth (list_data string names) ≤ suc n
texts n names = list_shallow n string names (λ name. omega arith)

some_texts : (n : ℕ) (names : List (List ℕ)) → IsShallow (suc n) (unless_empty string names)
some_texts n names = unless_shallow n string names (λ name. omega arith)

in_table : (n : ℕ) (fields : List Field) → AreShallow n fields → depth (table_data fields) ≤ suc n
in_table n fields own = let low = table_depth n fields own in omega (arith, low)

-- ---- entries

type_flat : (n : ℕ) (t : ColumnType) → depth (type_data t) ≤ n
type_flat n type.Int = omega arith
type_flat n type.Text = omega arith
type_flat n type.Any = omega arith

note_flat : (n : ℕ) (k : NoteName) → depth (note_data k) ≤ n
note_flat n note.CR = omega arith
note_flat n note.CW = omega arith
note_flat n note.OR = omega arith
note_flat n note.OW = omega arith

types_shallow : (types : List ColumnType) → IsShallow 1 (types_data types)
types_shallow types = by (list_all is_any types)
  where
    by : (b : Bool) → IsShallow 1 (if b then None else Some (list_data type_data types))
    by true = tt
    by false = list_shallow 0 type_data types (type_flat 0)

source_depth : (s : SourceEntry) → depth (table_data (source_fields s)) ≤ 4
source_depth s =
    let low = in_table 1 (source_fields s) (omega arith, (texts 0 s.columns, (types_shallow s.types, (some_texts 0 s.seal, (unless_shallow 0 spot_data s.to (λ spot. omega arith), tt))))) in omega (arith, low)

stream_depth : (s : StreamEntry) → depth (table_data (stream_fields s)) ≤ 4
stream_depth s = let low = in_table 1 (stream_fields s) (omega arith, (omega arith, (unless_shallow 0 spot_data s.to (λ spot. omega arith), tt))) in omega (arith, low)

fd_depth : (fd : FdEntry) → depth (table_data (fd_fields fd)) ≤ 4
fd_depth fd = let low = in_table 1 (fd_fields fd) (texts 0 fd.from, (texts 0 fd.to, tt)) in omega (arith, low)

side_depth : (side : Side) → depth (side_data side) ≤ 2
side_depth side = in_table 1 (side_fields side) (omega arith, (texts 0 side.columns, tt))

declared_depth : (d : Declared) → depth (declared_data d) ≤ 2
declared_depth d = in_table 1 (declared_fields d) (omega arith, (omega arith, (note_flat 1 d.note, (some_texts 0 d.gate, tt))))

body_shallow : (b : Body) → AreShallow 3 (body_fields b)
body_shallow (body.Module file) = (omega arith, (tt, (tt, (tt, (tt, tt)))))
body_shallow body.None = (tt, (tt, (tt, (tt, (tt, tt)))))
body_shallow (body.Stock (stock.Split columns split)) = (tt, (omega arith, (texts 2 columns, (omega arith, (tt, tt)))))
body_shallow (body.Stock (stock.Latest columns keys)) = (tt, (omega arith, (texts 2 columns, (tt, (texts 2 keys, tt)))))
body_shallow (body.Stock (stock.Number columns)) = (tt, (omega arith, (texts 2 columns, (tt, (tt, tt)))))

replicas_shallow : (count : ℤ) → IsShallow 3 (replicas_data count)
replicas_shallow count = by (is_one count)
  where
    by : (b : Bool) → IsShallow 3 (if b then None else Some (integer count))
    by true = tt
    by false = omega arith

mode_shallow : (n : ModeName) → IsShallow 3 (mode_data n)
mode_shallow mode.Free = tt
mode_shallow mode.Pass = omega arith
mode_shallow mode.Seal = omega arith
mode_shallow mode.Order = omega arith

component_depth : (c : ComponentEntry) → depth (table_data (component_fields c)) ≤ 4
component_depth c =
    let own = body_shallow c.body in
    in_table 3 (component_fields c) (
      omega arith,
      (
        own.0,
        (
          own.1.0,
          (
            own.1.1.0,
            (
              own.1.1.1.0,
              (
                own.1.1.1.1.0,
                (
                  unless_shallow 2 side_data c.inputs side_depth,
                  (
                    unless_shallow 2 side_data c.outputs side_depth,
                    (
                      unless_shallow 2 declared_data c.notes declared_depth,
                      (replicas_shallow c.replicas, (mode_shallow c.mode, (some_texts 2 c.key, tt))),
                    ),
                  ),
                ),
              ),
            ),
          ),
        ),
      ),
    )

-- ---- the whole

pub written_depth : (t : Topology) → members_depth (table_of t) ≤ 80
unfolding table_of
written_depth t =
    let low = table_depth 5 (topology_fields t) (
      omega arith,
      (
        unless_shallow 4 (λ s. table_data (source_fields s)) t.sources source_depth,
        (
          unless_shallow 4 (λ c. table_data (component_fields c)) t.components component_depth,
          (
            unless_shallow 4 (λ s. table_data (stream_fields s)) t.streams stream_depth,
            (unless_shallow 4 (λ fd. table_data (fd_fields fd)) t.fds fd_depth, tt),
          ),
        ),
      ),
    ) in
    omega (arith, low)
