-- Entries are read as they were written.
use Rattle.std.proofs.Common.{◌≡◌, ◌&&◌, ℕ, ℤ, pos, negsuc, nat_eq, nat_le, Bool, true, false, if◌then◌else◌, Option, None, Some, Result, Ok, Err, List, [], ◌∷◌, ◌++◌, length, map, codes, refl, arith, ap, sym, subst, ◌∙◌}
use Rattle.std.specs.List.{list_all}
use Rattle.std.specs.Option.{option_map, unwrap_or}
use Rattle.std.proofs.lemmas.Bool.{eqb-true, true≢false}
use Rattle.blz_value.specs.Members.{Has}
use Rattle.blz_value.specs.Name.{is_name}
use Rattle.blz_value.proofs.Membership.{all_member}
use Rattle.blz_value.proofs.Booleans.{both_true as both}
use Rattle.toml.specs.Data.{Data, string, integer, table, as_integer, get_member, Members}
use Rattle.topo_forms.specs.declared.topology.Body.{Body}
use Rattle.topo_forms.specs.declared.topology.Body.TheVariants as body
use Rattle.topo_forms.specs.declared.topology.ColumnType.{ColumnType}
use Rattle.topo_forms.specs.declared.topology.ColumnType.TheVariants as type
use Rattle.topo_forms.specs.declared.topology.ComponentEntry.{ComponentEntry}
use Rattle.topo_forms.specs.declared.topology.Declared.{Declared}
use Rattle.topo_forms.specs.declared.topology.FdEntry.{FdEntry}
use Rattle.topo_forms.specs.declared.topology.ModeName.{ModeName}
use Rattle.topo_forms.specs.declared.topology.ModeName.TheVariants as mode
use Rattle.topo_forms.specs.declared.topology.NoteName.{NoteName}
use Rattle.topo_forms.specs.declared.topology.NoteName.TheVariants as note
use Rattle.topo_forms.specs.declared.topology.Side.{Side}
use Rattle.topo_forms.specs.declared.topology.SourceEntry.{SourceEntry}
use Rattle.topo_forms.specs.declared.topology.Spot.{Spot}
use Rattle.topo_forms.specs.declared.topology.Stock.{Stock}
use Rattle.topo_forms.specs.declared.topology.Stock.TheVariants as stock
use Rattle.topo_forms.specs.declared.topology.StreamEntry.{StreamEntry}
use Rattle.topo_forms.specs.Allowed.{are_names, are_some_names, is_empty, is_spot, is_side, allows_source, allows_stock, allows_body, allows_gate, allows_note, allows_key, allows_component, allows_stream, allows_side, allows_fd}
use Rattle.topo_read.specs.declared.values.FileName.{FileName}
use Rattle.topo_read.specs.declared.values.Format.TheVariants.{Two}
use Rattle.topo_read.specs.declared.values.StockName.{StockName}
use Rattle.topo_read.specs.declared.values.StockName.TheVariants as named
use Rattle.topo_read.specs.Component.{stock_with, stock_of, no_stock, body_with, body_of, empty_at, sides_of, key_of, or_one, or_free, component_keys, component_of}
use Rattle.topo_read.specs.Entries.{any_types, types_of, or_any_types, or_no_names, source_keys, source_of, stream_of, fd_names, fd_of}
use Rattle.topo_read.specs.Fields.{◌>>=◌, Path, or_break, required, optional, optional_list, absent, break_at, only_keys}
use Rattle.topo_read.specs.Fill.{Field, table_with, list_data, unless_empty}
use Rattle.topo_read.specs.Tables.{at_key, maybe_at_key, list_at_key, none_or_some, none_or_list, lacks, has_only, unknown_key, side_of, side_in, gate_of, declared_of, declared_in, up_to_eight, fd_names_at}
use Rattle.topo_read.specs.Values as values
use Rattle.topo_read.specs.Values.{only_if, name_in, names_in, some_names_in, spot_in, file_in, stock_in, type_in, types_in, note_in, mode_in}
use Rattle.topo_read.specs.Written.{spot_data, type_data, note_data, is_any, types_data, source_fields, side_fields, side_data, declared_fields, declared_data, body_fields, component_fields, stream_fields, fd_fields}
use Rattle.topo_read.proofs.Filled.{at_field, are_apart, have_keys, no_unknown}
use Rattle.topo_read.proofs.ReadBackValues.{list_reads, maybe_list_reads, name_reads, names_read, maybe_names_read, some_names_read, given_names, given_names_read, given_names_are, spot_reads, types_read, note_reads, at_reads, maybe_reads, list_at_reads, is_lacking, sides_read}

-- ---- one step of a reading

pub next : {A B : Type 0} {r : Result A Path} {x : A} {y : Result B Path} (after : A → Result B Path) → r ≡ Ok x → after x ≡ y → (r >>= after) ≡ y
next after e f = ap (λ q. q >>= after) e ∙ f

module _ (m : Members) (key : List ℕ) where
  pub takes : {X : Type 0} (read : Data → Option X) (d : Data) (x : X) → get_member key m ≡ Some d → read d ≡ Some x → required read key m ≡ Ok x
  takes read d x is reads = ap (or_break key) (at_reads m key read d x is reads)

  pub maybe : {X : Type 0} (read : Data → Option X) (o : Option Data) (x : Option X) → get_member key m ≡ o → none_or_some read o ≡ Some x → optional read key m ≡ Ok x
  maybe read o x is reads = ap (or_break key) (maybe_reads m key read o x is reads)

  pub list : {X : Type 0} (read : Data → Option X) (o : Option Data) (xs : List X) → get_member key m ≡ o → none_or_list read o ≡ Some xs → optional_list read key m ≡ Ok xs
  list read o xs is reads = ap (or_break key) (list_at_reads m key read o xs is reads)

  pub none : get_member key m ≡ None → absent key m ≡ Ok tt
  none is = ap (λ (b : Bool). or_break key (only_if b tt)) (is_lacking m key is)

pub only : (known : List (List ℕ)) (fields : List Field) → have_keys known fields ≡ true → only_keys known (table_with fields) ≡ Ok tt
only known fields own = ap break_at (no_unknown known fields own)

-- ---- sources

all_any : (types : List ColumnType) (columns : List (List ℕ)) → list_all is_any types ≡ true → length types ≡ length columns → any_types columns ≡ types
all_any [] [] any count = refl
all_any [] (c ∷ columns) any count = absurd (omega (arith, count))
all_any (t ∷ types) [] any count = absurd (omega (arith, count))
all_any (t ∷ types) (c ∷ columns) any count =
    let parts = both (is_any t) (list_all is_any types) any in
    let first : type.Any ≡ t = one t parts.0 in
    let more = all_any types columns parts.1 (omega (arith, count)) in
    λ i. first i ∷ more i
  where
    one : (t : ColumnType) → is_any t ≡ true → type.Any ≡ t
    one type.Int e = absurd (true≢false (sym e))
    one type.Text e = absurd (true≢false (sym e))
    one type.Any e = refl

types_back : (m : Members) (types : List ColumnType) (columns : List (List ℕ)) → get_member (codes "types") m ≡ types_data types → nat_eq (length types) (length columns) ≡ true → types_of Two columns m ≡ Ok types
types_back m types columns is count = by (list_all is_any types) refl is
  where
    by : (b : Bool) → list_all is_any types ≡ b → get_member (codes "types") m ≡ (if b then None else Some (list_data type_data types)) → types_of Two columns m ≡ Ok types
    by true any at = next _ (maybe m (codes "types") (types_in (length columns)) None None at refl) (ap (λ (ts : List ColumnType). Ok ts) (all_any types columns any (eqb-true (length types) (length columns) count)))
    by false any at = next _ (maybe m (codes "types") (types_in (length columns)) (Some (list_data type_data types)) (Some types) at (ap (option_map Some) (types_read types (length columns) count))) refl

pub source_reads : (s : SourceEntry) → allows_source s ≡ true → source_of Two (table_with (source_fields s)) ≡ Ok s
unfolding source_of
source_reads s e =
    let fs : List Field = source_fields s in
    let m : Members = table_with (source_fields s) in
    let one = both (is_name s.name) _ e in
    let two = both (are_some_names s.columns) _ one.1 in
    let three = both (nat_eq (length s.types) (length s.columns)) _ two.1 in
    let four = both (are_names s.seal) (list_all is_spot s.to) three.1 in
    next _ (takes m (codes "name") name_in (string s.name) s.name (at_field (codes "name") fs refl) (name_reads s.name one.0))
    (next _ (takes m (codes "columns") some_names_in (list_data string s.columns) s.columns (at_field (codes "columns") fs refl) (some_names_read s.columns two.0))
    (next _ (types_back m s.types s.columns (at_field (codes "types") fs refl) three.0)
    (next _ (maybe m (codes "seal") some_names_in (unless_empty string s.seal) (given_names s.seal) (at_field (codes "seal") fs refl) (given_names_read s.seal four.0))
    (next _ (list m (codes "to") spot_in (unless_empty spot_data s.to) s.to (at_field (codes "to") fs refl) (maybe_list_reads spot_in spot_data s.to (λ spot has. spot_reads spot (all_member is_spot s.to spot four.1 has))))
    (next _ (only (source_keys Two) fs refl) (ap (λ (seal : List (List ℕ)). Ok (record s { seal = seal })) (given_names_are s.seal)))))))

-- ---- streams and dependencies

pub stream_reads : (s : StreamEntry) → allows_stream s ≡ true → stream_of (table_with (stream_fields s)) ≡ Ok s
unfolding stream_of
stream_reads s e =
    let fs : List Field = stream_fields s in
    let m : Members = table_with (stream_fields s) in
    let one = both (is_name s.name) _ e in
    let two = both (is_spot s.from) (list_all is_spot s.to) one.1 in
    next _ (takes m (codes "name") name_in (string s.name) s.name (at_field (codes "name") fs refl) (name_reads s.name one.0))
    (next _ (takes m (codes "from") spot_in (spot_data s.from) s.from (at_field (codes "from") fs refl) (spot_reads s.from two.0))
    (next _ (list m (codes "to") spot_in (unless_empty spot_data s.to) s.to (at_field (codes "to") fs refl) (maybe_list_reads spot_in spot_data s.to (λ spot has. spot_reads spot (all_member is_spot s.to spot two.1 has))))
    (next _ (only (codes "name" ∷ codes "from" ∷ codes "to" ∷ []) fs refl) refl)))

fd_side : (m : Members) (key : List ℕ) (names : List (List ℕ)) → get_member key m ≡ Some (list_data string names) → allows_side 2 names ≡ true → fd_names Two key m ≡ Ok names
fd_side m key names is e =
    let parts = both (are_some_names names) (nat_le (length names) 8) e in
    ap (or_break key) (sides_read m key names is parts.0 parts.1)

pub fd_reads : (fd : FdEntry) → allows_fd 2 fd ≡ true → fd_of Two (table_with (fd_fields fd)) ≡ Ok fd
unfolding fd_of
fd_reads fd e =
    let fs : List Field = fd_fields fd in
    let m : Members = table_with (fd_fields fd) in
    let parts = both (allows_side 2 fd.from) (allows_side 2 fd.to) e in
    next _ (fd_side m (codes "from") fd.from (at_field (codes "from") fs refl) parts.0)
    (next _ (fd_side m (codes "to") fd.to (at_field (codes "to") fs refl) parts.1)
    (next (λ done. Ok fd) (only (codes "from" ∷ codes "to" ∷ []) fs refl) refl))
