-- Components are read as they were written.
use Rattle.std.proofs.Common.{◌≡◌, ◌&&◌, ℕ, ℤ, pos, negsuc, nat_eq, nat_le, Bool, true, false, if◌then◌else◌, Option, None, Some, is_none, Result, Ok, Err, List, [], ◌∷◌, ◌++◌, length, map, codes, refl, ap, sym, subst, ◌∙◌}
use Rattle.std.specs.List.{list_all}
use Rattle.std.specs.Option.{option_map, unwrap_or}
use Rattle.std.proofs.lemmas.Bool.{eqb-true, true≢false}
use Rattle.blz_value.specs.Members.{Has}
use Rattle.blz_value.specs.Name.{is_name}
use Rattle.blz_value.proofs.Membership.{all_member}
use Rattle.blz_value.proofs.Booleans.{both_true as both}
use Rattle.toml.specs.Data.{Data, string, integer, table, as_integer, get_member, Members}
use Rattle.topo_forms.specs.declared.topology.Body.{Body}
use Rattle.topo_forms.specs.declared.topology.Body.TheVariants as body
use Rattle.topo_forms.specs.declared.topology.ColumnType.{ColumnType}
use Rattle.topo_forms.specs.declared.topology.ColumnType.TheVariants as type
use Rattle.topo_forms.specs.declared.topology.ComponentEntry.{ComponentEntry}
use Rattle.topo_forms.specs.declared.topology.Declared.{Declared}
use Rattle.topo_forms.specs.declared.topology.FdEntry.{FdEntry}
use Rattle.topo_forms.specs.declared.topology.ModeName.{ModeName}
use Rattle.topo_forms.specs.declared.topology.ModeName.TheVariants as mode
use Rattle.topo_forms.specs.declared.topology.NoteName.{NoteName}
use Rattle.topo_forms.specs.declared.topology.NoteName.TheVariants as note
use Rattle.topo_forms.specs.declared.topology.Side.{Side}
use Rattle.topo_forms.specs.declared.topology.SourceEntry.{SourceEntry}
use Rattle.topo_forms.specs.declared.topology.Spot.{Spot}
use Rattle.topo_forms.specs.declared.topology.Stock.{Stock}
use Rattle.topo_forms.specs.declared.topology.Stock.TheVariants as stock
use Rattle.topo_forms.specs.declared.topology.StreamEntry.{StreamEntry}
use Rattle.topo_forms.specs.Allowed.{are_names, are_some_names, is_empty, is_spot, is_side, allows_source, allows_stock, allows_body, allows_gate, allows_note, allows_key, allows_component, allows_stream, allows_side, allows_fd}
use Rattle.topo_read.specs.declared.values.FileName.{FileName}
use Rattle.topo_read.specs.declared.values.Format.TheVariants.{Two}
use Rattle.topo_read.specs.declared.values.StockName.{StockName}
use Rattle.topo_read.specs.declared.values.StockName.TheVariants as named
use Rattle.topo_read.specs.Component.{stock_with, stock_of, no_stock, body_with, body_of, empty_at, sides_of, key_of, or_one, or_free, component_keys, component_of}
use Rattle.topo_read.specs.Entries.{any_types, types_of, or_any_types, or_no_names, source_keys, source_of, stream_of, fd_names, fd_of}
use Rattle.topo_read.specs.Fields.{◌>>=◌, Path, or_break, required, optional, optional_list, absent, break_at, only_keys}
use Rattle.topo_read.specs.Fill.{Field, table_with, list_data, unless_empty}
use Rattle.topo_read.specs.Tables.{at_key, maybe_at_key, list_at_key, none_or_some, none_or_list, lacks, has_only, unknown_key, side_of, side_in, gate_of, declared_of, declared_in, up_to_eight, fd_names_at}
use Rattle.topo_read.specs.Values as values
use Rattle.topo_read.specs.Values.{only_if, name_in, names_in, some_names_in, spot_in, file_in, stock_in, type_in, types_in, note_in, mode_in}
use Rattle.topo_read.specs.Written.{spot_data, type_data, note_data, is_any, types_data, source_fields, side_fields, side_data, declared_fields, declared_data, body_fields, component_fields, module_data, stock_name, stock_columns, stock_split, stock_keys, of_stock, is_one, replicas_data, mode_data}
use Rattle.topo_read.proofs.Filled.{at_field, are_apart, have_keys, no_unknown}
use Rattle.topo_read.proofs.ReadBackValues.{list_reads, maybe_list_reads, name_reads, names_read, maybe_names_read, some_names_read, given_names, given_names_read, given_names_are, spot_reads, types_read, note_reads, at_reads, maybe_reads, list_at_reads, is_lacking, side_from, declared_from, no_gate, file_reads}
use Rattle.topo_read.proofs.ReadBackEntries.{next, takes, maybe, list, none, only}

-- ---- lists that are empty

unwritten : {X : Type 0} (m : Members) (key : List ℕ) (write : X → Data) (xs : List X) → is_empty xs ≡ true → get_member key m ≡ unless_empty write xs → empty_at {X = X} key m ≡ Ok xs
unwritten m key write [] e is = next _ (none m key is) refl
unwritten m key write (x ∷ xs) e is = absurd (true≢false (sym e))

-- ---- ports, outputs and notes

side_reads : (side : Side) → is_side side ≡ true → side_in (side_data side) ≡ Some side
unfolding side_of
side_reads side e =
    let fs : List Field = side_fields side in
    let m : Members = table_with (side_fields side) in
    let parts = both (is_name side.name) (are_names side.columns) e in
    side_from m side (at_reads m (codes "name") name_in (string side.name) side.name (at_field (codes "name") fs refl) (name_reads side.name parts.0))
    (at_reads m (codes "columns") names_in (list_data string side.columns) side.columns (at_field (codes "columns") fs refl) (names_read side.columns parts.1))
    (ap is_none (no_unknown (codes "name" ∷ codes "columns" ∷ []) fs refl))

gate_back : (m : Members) (n : NoteName) (gate : List (List ℕ)) → allows_gate n gate ≡ true → get_member (codes "gate") m ≡ unless_empty string gate → gate_of n m ≡ Some gate
gate_back m note.OR gate e is = list_at_reads m (codes "gate") name_in (unless_empty string gate) gate is (maybe_names_read gate e)
gate_back m note.OW gate e is = list_at_reads m (codes "gate") name_in (unless_empty string gate) gate is (maybe_names_read gate e)
gate_back m note.CR gate e is = no_gate m gate e is
gate_back m note.CW gate e is = no_gate m gate e is

declared_reads : (d : Declared) → allows_note d ≡ true → declared_in (declared_data d) ≡ Some d
declared_reads d e =
    let fs : List Field = declared_fields d in
    let m : Members = table_with (declared_fields d) in
    let one = both (is_name d.from) (is_name d.to && allows_gate d.note d.gate) e in
    let two = both (is_name d.to) (allows_gate d.note d.gate) one.1 in
    declared_from m d
    (at_reads m (codes "from") name_in (string d.from) d.from (at_field (codes "from") fs refl) (name_reads d.from one.0))
    (at_reads m (codes "to") name_in (string d.to) d.to (at_field (codes "to") fs refl) (name_reads d.to two.0))
    (at_reads m (codes "note") note_in (note_data d.note) d.note (at_field (codes "note") fs refl) (note_reads d.note))
    (gate_back m d.note d.gate two.1 (at_field (codes "gate") fs refl))
    (ap is_none (no_unknown (codes "from" ∷ codes "to" ∷ codes "note" ∷ codes "gate" ∷ []) fs refl))

-- ---- bodies

-- a table has the fields of a body
record HasBody (m : Members) (b : Body) : Type 0 where
  file : get_member (codes "module") m ≡ module_data b
  stock : get_member (codes "stock") m ≡ of_stock (λ s. Some (string (stock_name s))) b
  columns : get_member (codes "columns") m ≡ of_stock (λ s. Some (list_data string (stock_columns s))) b
  split : get_member (codes "split") m ≡ of_stock stock_split b
  keys : get_member (codes "keys") m ≡ of_stock stock_keys b

no_stock_is : (m : Members) → get_member (codes "columns") m ≡ None → get_member (codes "split") m ≡ None → get_member (codes "keys") m ≡ None → no_stock m ≡ Ok tt
unfolding no_stock
no_stock_is m columns split keys = next _ (none m (codes "columns") columns) (next _ (none m (codes "split") split) (none m (codes "keys") keys))

stock_back : (m : Members) (s : Stock) → HasBody m (body.Stock s) → allows_stock s ≡ true → body_of m ≡ Ok (body.Stock s)
unfolding body_of body_with stock_of stock_with
stock_back m (stock.Split columns split) has e =
    let parts = both (are_names columns) (is_name split) e in
    next _ (maybe m (codes "module") file_in None None has.file refl)
    (next _ (maybe m (codes "stock") stock_in (Some (string (codes "split"))) (Some named.Split) has.stock refl)
    (next _ (next _ (takes m (codes "columns") names_in (list_data string columns) columns has.columns (names_read columns parts.0))
    (next _ (takes m (codes "split") name_in (string split) split has.split (name_reads split parts.1))
    (next _ (none m (codes "keys") has.keys) refl))) refl))
stock_back m (stock.Latest columns keys) has e =
    let parts = both (are_names columns) (are_some_names keys) e in
    next _ (maybe m (codes "module") file_in None None has.file refl)
    (next _ (maybe m (codes "stock") stock_in (Some (string (codes "latest"))) (Some named.Latest) has.stock refl)
    (next _ (next _ (takes m (codes "columns") names_in (list_data string columns) columns has.columns (names_read columns parts.0))
    (next _ (none m (codes "split") has.split)
    (next _ (takes m (codes "keys") some_names_in (list_data string keys) keys has.keys (some_names_read keys parts.1)) refl))) refl))
stock_back m (stock.Number columns) has e =
    next _ (maybe m (codes "module") file_in None None has.file refl)
    (next _ (maybe m (codes "stock") stock_in (Some (string (codes "number"))) (Some named.Number) has.stock refl)
    (next _ (next _ (takes m (codes "columns") names_in (list_data string columns) columns has.columns (names_read columns e))
    (next _ (none m (codes "split") has.split)
    (next _ (none m (codes "keys") has.keys) refl))) refl))

body_back : (m : Members) (b : Body) (inputs outputs : List Side) → HasBody m b → allows_body b inputs outputs ≡ true → body_of m ≡ Ok b
unfolding body_of body_with
body_back m (body.Stock s) inputs outputs has e = stock_back m s has (both (allows_stock s) _ e).0
body_back m (body.Module file) inputs outputs has e =
    let one = both (nat_le 1 (length file)) _ e in
    let two = both (nat_le (length file) 255) _ one.1 in
    next _ (maybe m (codes "module") file_in (Some (string file)) (Some (record { name = file })) has.file (ap (option_map Some) (file_reads file one.0 two.0)))
    (next _ (maybe m (codes "stock") stock_in None None has.stock refl)
    (next _ (no_stock_is m has.columns has.split has.keys) refl))
body_back m body.None inputs outputs has e =
    next _ (maybe m (codes "module") file_in None None has.file refl)
    (next _ (maybe m (codes "stock") stock_in None None has.stock refl)
    (next _ (no_stock_is m has.columns has.split has.keys) refl))

sides_read_back : (m : Members) (key : List ℕ) (sides : List Side) → list_all is_side sides ≡ true → get_member key m ≡ unless_empty side_data sides → optional_list side_in key m ≡ Ok sides
sides_read_back m key sides e is = list m key side_in (unless_empty side_data sides) sides is (maybe_list_reads side_in side_data sides (λ side has. side_reads side (all_member is_side sides side e has)))

inputs_back : (m : Members) (b : Body) (inputs outputs : List Side) → allows_body b inputs outputs ≡ true → get_member (codes "inputs") m ≡ unless_empty side_data inputs → sides_of b (codes "inputs") m ≡ Ok inputs
unfolding sides_of
inputs_back m (body.Module file) inputs outputs e is = unwritten m (codes "inputs") side_data inputs (both (is_empty inputs) (is_empty outputs) (both _ _ (both _ _ e).1).1).0 is
inputs_back m (body.Stock s) inputs outputs e is = unwritten m (codes "inputs") side_data inputs (both (is_empty inputs) (is_empty outputs) (both (allows_stock s) _ e).1).0 is
inputs_back m body.None inputs outputs e is = sides_read_back m (codes "inputs") inputs (both (list_all is_side inputs) (list_all is_side outputs) e).0 is

outputs_back : (m : Members) (b : Body) (inputs outputs : List Side) → allows_body b inputs outputs ≡ true → get_member (codes "outputs") m ≡ unless_empty side_data outputs → sides_of b (codes "outputs") m ≡ Ok outputs
unfolding sides_of
outputs_back m (body.Module file) inputs outputs e is = unwritten m (codes "outputs") side_data outputs (both (is_empty inputs) (is_empty outputs) (both _ _ (both _ _ e).1).1).1 is
outputs_back m (body.Stock s) inputs outputs e is = unwritten m (codes "outputs") side_data outputs (both (is_empty inputs) (is_empty outputs) (both (allows_stock s) _ e).1).1 is
outputs_back m body.None inputs outputs e is = sides_read_back m (codes "outputs") outputs (both (list_all is_side inputs) (list_all is_side outputs) e).1 is

-- ---- replicas, modes and keys

replicas_back : (m : Members) (count : ℤ) → get_member (codes "replicas") m ≡ replicas_data count → (o : Option ℤ) × (optional as_integer (codes "replicas") m ≡ Ok o) × (or_one o ≡ count)
replicas_back m count is = by (is_one count) refl is
  where
    one_is : (z : ℤ) → is_one z ≡ true → pos 1 ≡ z
    one_is (pos n) e = ap pos (sym (eqb-true n 1 e))
    one_is (negsuc n) e = absurd (true≢false (sym e))

    by : (b : Bool) → is_one count ≡ b → get_member (codes "replicas") m ≡ (if b then None else Some (integer count)) → (o : Option ℤ) × (optional as_integer (codes "replicas") m ≡ Ok o) × (or_one o ≡ count)
    by true e at = (None, maybe m (codes "replicas") as_integer None None at refl, one_is count e)
    by false e at = (Some count, maybe m (codes "replicas") as_integer (Some (integer count)) (Some count) at refl, refl)

given_mode : ModeName → Option ModeName
given_mode mode.Free = None
given_mode mode.Pass = Some mode.Pass
given_mode mode.Seal = Some mode.Seal
given_mode mode.Order = Some mode.Order

mode_reads : (n : ModeName) → none_or_some mode_in (mode_data n) ≡ Some (given_mode n)
unfolding given_mode
mode_reads mode.Free = refl
mode_reads mode.Pass = refl
mode_reads mode.Seal = refl
mode_reads mode.Order = refl

mode_is : (n : ModeName) → or_free (given_mode n) ≡ n
unfolding given_mode
mode_is mode.Free = refl
mode_is mode.Pass = refl
mode_is mode.Seal = refl
mode_is mode.Order = refl

key_given : (m : Members) (key : List (List ℕ)) → are_some_names key ≡ true → get_member (codes "key") m ≡ unless_empty string key → required some_names_in (codes "key") m ≡ Ok key
key_given m [] e is = absurd (true≢false (sym e))
key_given m (name ∷ names) e is = takes m (codes "key") some_names_in (list_data string (name ∷ names)) (name ∷ names) is (some_names_read (name ∷ names) e)

key_back : (m : Members) (n : ModeName) (key : List (List ℕ)) → allows_key n key ≡ true → get_member (codes "key") m ≡ unless_empty string key → key_of n m ≡ Ok key
unfolding key_of
key_back m mode.Free key e is = unwritten m (codes "key") string key e is
key_back m mode.Order key e is = unwritten m (codes "key") string key e is
key_back m mode.Pass key e is = key_given m key e is
key_back m mode.Seal key e is = key_given m key e is

-- ---- components

pub component_reads : (c : ComponentEntry) → allows_component c ≡ true → component_of (table_with (component_fields c)) ≡ Ok c
unfolding component_of
component_reads c e =
    let fs : List Field = component_fields c in
    let m : Members = table_with (component_fields c) in
    let one = both (is_name c.name) _ e in
    let two = both (allows_body c.body c.inputs c.outputs) _ one.1 in
    let three = both (list_all allows_note c.notes) (allows_key c.mode c.key) two.1 in
    let has : HasBody m c.body = record {
      file = at_field (codes "module") fs refl;
      stock = at_field (codes "stock") fs refl;
      columns = at_field (codes "columns") fs refl;
      split = at_field (codes "split") fs refl;
      keys = at_field (codes "keys") fs refl;
    } in
    let replicas = replicas_back m c.replicas (at_field (codes "replicas") fs refl) in
    next _ (takes m (codes "name") name_in (string c.name) c.name (at_field (codes "name") fs refl) (name_reads c.name one.0))
    (next _ (body_back m c.body c.inputs c.outputs has two.0)
    (next _ (inputs_back m c.body c.inputs c.outputs two.0 (at_field (codes "inputs") fs refl))
    (next _ (outputs_back m c.body c.inputs c.outputs two.0 (at_field (codes "outputs") fs refl))
    (next _ (list m (codes "notes") declared_in (unless_empty declared_data c.notes) c.notes (at_field (codes "notes") fs refl) (maybe_list_reads declared_in declared_data c.notes (λ d in_notes. declared_reads d (all_member allows_note c.notes d three.0 in_notes))))
    (next _ replicas.1
    (next _ (maybe m (codes "mode") mode_in (mode_data c.mode) (given_mode c.mode) (at_field (codes "mode") fs refl) (mode_reads c.mode))
    (next _ (ap (λ (n : ModeName). key_of n m) (mode_is c.mode) ∙ key_back m c.mode c.key three.1 (at_field (codes "key") fs refl))
    (next _ (only component_keys fs refl)
    (let counted = replicas.2 in let moded = mode_is c.mode in λ i. Ok (record c { replicas = counted i; mode = moded i }))))))))))
