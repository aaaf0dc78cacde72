-- The entries of a topology that is read are allowed, and so is the topology.
use Rattle.std.proofs.Common.{◌≡◌, ◌&&◌, ◌+◌, ℕ, suc, Bool, true, false, nat_le, nat_eq, ◌==◌, List, [], ◌∷◌, length, map, Option, Some, None, Result, Ok, Err, refl, ap, sym, ◌∙◌, subst, arith}
use Rattle.std.specs.List.{list_all}
use Rattle.std.specs.Prelude.{codes}
use Rattle.std.proofs.lemmas.Bool.Decides.{nat_tests}
use Rattle.toml.specs.Data.{Data, Members, as_integer, as_table}
use Rattle.blz_value.specs.Name.{is_name}
use Rattle.blz_value.proofs.Booleans.{and_true as both}
use Rattle.topo_forms.specs.Allowed.{are_names, are_some_names, is_spot, is_side, is_empty, allows_source, allows_stock, allows_body, allows_note, allows_key, allows_component, allows_stream, allows_side, allows_fd, is_allowed, IsAllowed}
use Rattle.topo_forms.specs.declared.topology.ColumnType.{ColumnType}
use Rattle.topo_forms.specs.declared.topology.ComponentEntry.{ComponentEntry}
use Rattle.topo_forms.specs.declared.topology.FdEntry.{FdEntry}
use Rattle.topo_forms.specs.declared.topology.SourceEntry.{SourceEntry}
use Rattle.topo_forms.specs.declared.topology.StreamEntry.{StreamEntry}
use Rattle.topo_forms.specs.declared.topology.Topology.{Topology}
use Rattle.topo_forms.specs.declared.topology.Side.{Side}
use Rattle.topo_forms.specs.declared.topology.Body.{Body}
use Rattle.topo_forms.specs.declared.topology.Body.TheVariants as bodies
use Rattle.topo_forms.specs.declared.topology.Stock.{Stock}
use Rattle.topo_forms.specs.declared.topology.Stock.TheVariants as stocks
use Rattle.topo_forms.specs.declared.topology.ModeName.{ModeName}
use Rattle.topo_forms.specs.declared.topology.ModeName.TheVariants as modes
use Rattle.topo_read.specs.declared.values.FileName.{FileName}
use Rattle.topo_read.specs.declared.values.Format.{Format}
use Rattle.topo_read.specs.declared.values.Format.TheVariants.{One, Two}
use Rattle.topo_read.specs.declared.values.StockName.{StockName}
use Rattle.topo_read.specs.declared.values.StockName.TheVariants as named
use Rattle.topo_read.specs.Values.{format_in, name_in, names_in, some_names_in, spot_in, file_in, stock_in, mode_in, types_in}
use Rattle.topo_read.specs.Tables.{at_key, maybe_at_key, list_at_key, side_in, declared_in, fd_names_at}
use Rattle.topo_read.specs.Fields.{◌>>=◌, Path, or_break, required, optional, optional_list, absent, only_keys}
use Rattle.topo_read.specs.Entries.{any_types, or_any_types, types_of, or_no_names, source_keys, source_of, stream_of, fd_names, fd_of}
use Rattle.topo_read.specs.Component.{stock_with, stock_of, empty_at, no_stock, body_with, body_of, sides_of, key_of, or_one, or_free, component_keys, component_of}
use Rattle.topo_read.specs.Topology.{numbered, entry_path, entries_from, entries, topology_of}
use Rattle.topo_read.proofs.GivenValues.{Passes, good_name, good_names, good_some_names, good_spot, fits_file, good_file, good_at_key, passes_any, good_maybe_at_key, good_list_at_key, good_side, good_note, good_fd_names, as_many_types, equal_numbers}

-- what went on was read
was_read : {A B : Type 0} (m : Result A Path) (next : A → Result B Path) (y : B) → (m >>= next) ≡ Ok y → (x : A) × (m ≡ Ok x) × (next x ≡ Ok y)
was_read (Ok x) next y e = (x, refl, e)
was_read (Err path) next y e = cc

abbrev ok : {X : Type 0} → X → Result X Path
ok x = Ok x

same_ok : {X : Type 0} (x y : X) → ok x ≡ ok y → x ≡ y
same_ok x y e = cc

no_break : {X : Type 0} (key : List ℕ) (given : Option X) (x : X) → or_break key given ≡ Ok x → given ≡ Some x
no_break key (Some y) x e = ap Some (same_ok y x e)
no_break key None x e = cc

read_required : {X : Type 0} (read : Data → Option X) (test : X → Bool) → Passes read test → (key : List ℕ) (table : Members) (x : X) → required read key table ≡ Ok x → test x ≡ true
read_required read test passes key table x e = good_at_key read test passes key table x (no_break key _ x e)

read_optional : {X : Type 0} (read : Data → Option X) (test : X → Bool) → Passes read test → (key : List ℕ) (table : Members) (x : Option X) → optional read key table ≡ Ok x → passes_any test x ≡ true
read_optional read test passes key table x e = good_maybe_at_key read test passes key table x (no_break key _ x e)

read_list : {X : Type 0} (read : Data → Option X) (test : X → Bool) → Passes read test → (key : List ℕ) (table : Members) (xs : List X) → optional_list read key table ≡ Ok xs → list_all test xs ≡ true
read_list read test passes key table xs e = good_list_at_key read test passes key table xs (no_break key _ xs e)

-- ---- sources, streams and dependencies

length_any : (columns : List (List ℕ)) → length (any_types columns) ≡ length columns
length_any [] = refl
length_any (column ∷ columns) = ap suc (length_any columns)

length_given : (columns : List (List ℕ)) (types : Option (List ColumnType)) → passes_any (λ ts. length ts == length columns) types ≡ true → length (or_any_types columns types) ≡ length columns
length_given columns None e = length_any columns
length_given columns (Some types) e = equal (length types) (length columns) e
  where
    equal : (a b : ℕ) → (a == b) ≡ true → a ≡ b
    equal a b e = grind (arith, nat_tests)

type_for_each : (format : Format) (columns : List (List ℕ)) (table : Members) (types : List ColumnType) → types_of format columns table ≡ Ok types → length types ≡ length columns
type_for_each One columns table types e = ap length (sym (same_ok (any_types columns) types e)) ∙ length_any columns
type_for_each Two columns table types e =
    let given = was_read (optional (types_in (length columns)) (codes "types") table) (λ ts. Ok (or_any_types columns ts)) types e in
    ap length (sym (same_ok (or_any_types columns given.0) types given.2))
    ∙ length_given columns given.0
    (read_optional (types_in (length columns)) (λ ts. length ts == length columns)
    (λ value ts was. equal_numbers (length ts) (length columns) (as_many_types (length columns) value ts was)) (codes "types") table given.0 given.1)

names_or_none : (names : Option (List (List ℕ))) → passes_any are_some_names names ≡ true → are_names (or_no_names names) ≡ true
names_or_none None e = refl
names_or_none (Some names) e = second (nat_le 1 (length names)) (are_names names) e
  where
    second : (a b : Bool) → (a && b) ≡ true → b ≡ true
    second true b e = e
    second false b e = cc

good_source : (format : Format) (table : Members) (source : SourceEntry) → source_of format table ≡ Ok source → allows_source source ≡ true
unfolding source_of
good_source format table source e =
    let name = was_read (required name_in (codes "name") table) _ source e in
    let columns = was_read (required some_names_in (codes "columns") table) _ source name.2 in
    let types = was_read (types_of format columns.0 table) _ source columns.2 in
    let seal = was_read (optional some_names_in (codes "seal") table) _ source types.2 in
    let to = was_read (optional_list spot_in (codes "to") table) _ source seal.2 in
    let only = was_read (only_keys (source_keys format) table) _ source to.2 in
    let columns_good = read_required some_names_in are_some_names good_some_names (codes "columns") table columns.0 columns.1 in
    let types_good = equal_numbers (length types.0) (length columns.0) (type_for_each format columns.0 table types.0 types.1) in
    let seal_good = names_or_none seal.0 (read_optional some_names_in are_some_names good_some_names (codes "seal") table seal.0 seal.1) in
    let to_good = read_list spot_in is_spot good_spot (codes "to") table to.0 to.1 in
    subst (λ s. allows_source s ≡ true) (same_ok {X = SourceEntry} (record { name = name.0; columns = columns.0; types = types.0; seal = or_no_names seal.0; to = to.0 }) source only.2)
    (both _ _ (read_required name_in is_name good_name (codes "name") table name.0 name.1) (both _ _ columns_good (both _ _ types_good (both _ _ seal_good to_good))))

good_stream : (table : Members) (stream : StreamEntry) → stream_of table ≡ Ok stream → allows_stream stream ≡ true
unfolding stream_of
good_stream table stream e =
    let name = was_read (required name_in (codes "name") table) _ stream e in
    let from = was_read (required spot_in (codes "from") table) _ stream name.2 in
    let to = was_read (optional_list spot_in (codes "to") table) _ stream from.2 in
    let only = was_read (only_keys (codes "name" ∷ codes "from" ∷ codes "to" ∷ []) table) _ stream to.2 in
    subst (λ s. allows_stream s ≡ true) (same_ok {X = StreamEntry} (record { name = name.0; from = from.0; to = to.0 }) stream only.2)
    (both _ _ (read_required name_in is_name good_name (codes "name") table name.0 name.1)
    (both _ _ (read_required spot_in is_spot good_spot (codes "from") table from.0 from.1) (read_list spot_in is_spot good_spot (codes "to") table to.0 to.1)))

good_fd : (format : Format) (table : Members) (fd : FdEntry) → fd_of format table ≡ Ok fd → allows_fd 2 fd ≡ true
unfolding fd_of
good_fd format table fd e =
    let from = was_read (fd_names format (codes "from") table) _ fd e in
    let to = was_read (fd_names format (codes "to") table) _ fd from.2 in
    let only = was_read (only_keys (codes "from" ∷ codes "to" ∷ []) table) _ fd to.2 in
    subst (λ d. allows_fd 2 d ≡ true) (same_ok {X = FdEntry} (record { from = from.0; to = to.0 }) fd only.2)
    (both _ _ (good_fd_names format (codes "from") table from.0 (no_break (codes "from") _ from.0 from.1)) (good_fd_names format (codes "to") table to.0 (no_break (codes "to") _ to.0 to.1)))

-- ---- components

good_stock_with : (name : StockName) (columns : List (List ℕ)) (table : Members) (stock : Stock) → are_names columns ≡ true → stock_with name columns table ≡ Ok stock → allows_stock stock ≡ true
unfolding stock_with
good_stock_with named.Split columns table stock good e =
    let split = was_read (required name_in (codes "split") table) _ stock e in
    let keys = was_read (absent (codes "keys") table) _ stock split.2 in
    subst (λ s. allows_stock s ≡ true) (same_ok (stocks.Split columns split.0) stock keys.2)
    (both _ _ good (read_required name_in is_name good_name (codes "split") table split.0 split.1))
good_stock_with named.Latest columns table stock good e =
    let split = was_read (absent (codes "split") table) _ stock e in
    let keys = was_read (required some_names_in (codes "keys") table) _ stock split.2 in
    subst (λ s. allows_stock s ≡ true) (same_ok (stocks.Latest columns keys.0) stock keys.2)
    (both _ _ good (read_required some_names_in are_some_names good_some_names (codes "keys") table keys.0 keys.1))
good_stock_with named.Number columns table stock good e =
    let split = was_read (absent (codes "split") table) _ stock e in
    let keys = was_read (absent (codes "keys") table) _ stock split.2 in
    subst (λ s. allows_stock s ≡ true) (same_ok (stocks.Number columns) stock keys.2) good

good_stock : (name : StockName) (table : Members) (stock : Stock) → stock_of name table ≡ Ok stock → allows_stock stock ≡ true
unfolding stock_of
good_stock name table stock e =
    let columns = was_read (required names_in (codes "columns") table) _ stock e in
    good_stock_with name columns.0 table stock (read_required names_in are_names good_names (codes "columns") table columns.0 columns.1) columns.2

-- the body alone, without ports and outputs
abbrev allows_own : Body → Bool
allows_own (bodies.Module file) = nat_le 1 (length file) && nat_le (length file) 255
allows_own (bodies.Stock stock) = allows_stock stock
allows_own bodies.None = true

own_with : (file : Option FileName) (name : Option StockName) (table : Members) (body : Body) → passes_any fits_file file ≡ true → body_with file name table ≡ Ok body → allows_own body ≡ true
unfolding body_with
own_with (Some file) (Some name) table body good e = cc
own_with (Some file) None table body good e =
    let none = was_read (no_stock table) _ body e in
    subst (λ b. allows_own b ≡ true) (same_ok (bodies.Module file.name) body none.2) good
own_with None (Some name) table body good e =
    let stock = was_read (stock_of name table) _ body e in
    subst (λ b. allows_own b ≡ true) (same_ok (bodies.Stock stock.0) body stock.2) (good_stock name table stock.0 stock.1)
own_with None None table body good e =
    let none = was_read (no_stock table) _ body e in
    subst (λ b. allows_own b ≡ true) (same_ok bodies.None body none.2) refl

good_own : (table : Members) (body : Body) → body_of table ≡ Ok body → allows_own body ≡ true
unfolding body_of
good_own table body e =
    let file = was_read (optional file_in (codes "module") table) _ body e in
    let name = was_read (optional stock_in (codes "stock") table) _ body file.2 in
    own_with file.0 name.0 table body (read_optional file_in fits_file good_file (codes "module") table file.0 file.1) name.2

-- the ports or the outputs beside a body
abbrev allows_sides : Body → List Side → Bool
allows_sides (bodies.Module file) sides = is_empty sides
allows_sides (bodies.Stock stock) sides = is_empty sides
allows_sides bodies.None sides = list_all is_side sides

good_sides : (body : Body) (key : List ℕ) (table : Members) (sides : List Side) → sides_of body key table ≡ Ok sides → allows_sides body sides ≡ true
unfolding sides_of
good_sides (bodies.Module file) key table sides e =
    let none = was_read (absent key table) _ sides e in
    subst (λ (s : List Side). is_empty s ≡ true) (same_ok [] sides none.2) refl
good_sides (bodies.Stock stock) key table sides e =
    let none = was_read (absent key table) _ sides e in
    subst (λ (s : List Side). is_empty s ≡ true) (same_ok [] sides none.2) refl
good_sides bodies.None key table sides e = read_list side_in is_side good_side key table sides e

good_body : (body : Body) (inputs outputs : List Side) → allows_own body ≡ true → allows_sides body inputs ≡ true → allows_sides body outputs ≡ true → allows_body body inputs outputs ≡ true
good_body (bodies.Module file) inputs outputs own i o = three (nat_le 1 (length file)) (nat_le (length file) 255) _ own (both _ _ i o)
  where
    three : (a b c : Bool) → (a && b) ≡ true → c ≡ true → (a && (b && c)) ≡ true
    three true true c p q = q
    three true false c p q = p
    three false b c p q = p
good_body (bodies.Stock stock) inputs outputs own i o = both _ _ own (both _ _ i o)
good_body bodies.None inputs outputs own i o = both _ _ i o

good_key : (mode : ModeName) (table : Members) (key : List (List ℕ)) → key_of mode table ≡ Ok key → allows_key mode key ≡ true
unfolding key_of
good_key modes.Free table key e =
    let none = was_read (absent (codes "key") table) _ key e in
    subst (λ (k : List (List ℕ)). is_empty k ≡ true) (same_ok [] key none.2) refl
good_key modes.Pass table key e = read_required some_names_in are_some_names good_some_names (codes "key") table key e
good_key modes.Seal table key e = read_required some_names_in are_some_names good_some_names (codes "key") table key e
good_key modes.Order table key e =
    let none = was_read (absent (codes "key") table) _ key e in
    subst (λ (k : List (List ℕ)). is_empty k ≡ true) (same_ok [] key none.2) refl

good_component : (table : Members) (component : ComponentEntry) → component_of table ≡ Ok component → allows_component component ≡ true
unfolding component_of
good_component table component e =
    let name = was_read (required name_in (codes "name") table) _ component e in
    let body = was_read (body_of table) _ component name.2 in
    let inputs = was_read (sides_of body.0 (codes "inputs") table) _ component body.2 in
    let outputs = was_read (sides_of body.0 (codes "outputs") table) _ component inputs.2 in
    let notes = was_read (optional_list declared_in (codes "notes") table) _ component outputs.2 in
    let replicas = was_read (optional as_integer (codes "replicas") table) _ component notes.2 in
    let mode = was_read (optional mode_in (codes "mode") table) _ component replicas.2 in
    let key = was_read (key_of (or_free mode.0) table) _ component mode.2 in
    let only = was_read (only_keys component_keys table) _ component key.2 in
    let body_good = good_body body.0 inputs.0 outputs.0 (good_own table body.0 body.1) (good_sides body.0 (codes "inputs") table inputs.0 inputs.1) (good_sides body.0 (codes "outputs") table outputs.0 outputs.1) in
    subst (λ c. allows_component c ≡ true) (same_ok {X = ComponentEntry} (record { name = name.0; body = body.0; inputs = inputs.0; outputs = outputs.0; notes = notes.0; replicas = or_one replicas.0; mode = or_free mode.0; key = key.0 }) component only.2)
    (both _ _ (read_required name_in is_name good_name (codes "name") table name.0 name.1)
    (both _ _ body_good (both _ _ (read_list declared_in allows_note good_note (codes "notes") table notes.0 notes.1) (good_key (or_free mode.0) table key.0 key.1))))

-- ---- the topology

good_numbered : {X : Type 0} (list : List ℕ) (number : ℕ) (given : Result X Path) (x : X) → numbered list number given ≡ Ok x → given ≡ Ok x
good_numbered list number (Ok y) x e = e
good_numbered list number (Err key) x e = cc

good_entries : {X : Type 0} (read : Members → Result X Path) (test : X → Bool) → ((table : Members) (x : X) → read table ≡ Ok x → test x ≡ true) → (list : List ℕ) (number : ℕ) (tables : List Members) (xs : List X) → entries_from read list number tables ≡ Ok xs → list_all test xs ≡ true
good_entries read test passes list number [] xs e = subst (λ zs. list_all test zs ≡ true) (same_ok [] xs e) refl
good_entries read test passes list number (table ∷ tables) xs e =
    let first = was_read (numbered list number (read table)) _ xs e in
    let others = was_read (entries_from read list (number + 1) tables) _ xs first.2 in
    subst (λ zs. list_all test zs ≡ true) (same_ok (first.0 ∷ others.0) xs others.2)
    (both (test first.0) (list_all test others.0) (passes table first.0 (good_numbered list number (read table) first.0 first.1)) (good_entries read test passes list (number + 1) tables others.0 others.1))

-- what a document gives is allowed
pub good_topology : (top : Members) (topology : Topology) → topology_of top ≡ Ok topology → IsAllowed topology
unfolding topology_of
good_topology top topology e =
    let format = was_read (required format_in (codes "format") top) _ topology e in
    let source_tables = was_read (optional_list as_table (codes "source") top) _ topology format.2 in
    let component_tables = was_read (optional_list as_table (codes "component") top) _ topology source_tables.2 in
    let stream_tables = was_read (optional_list as_table (codes "stream") top) _ topology component_tables.2 in
    let fd_tables = was_read (optional_list as_table (codes "fd") top) _ topology stream_tables.2 in
    let only = was_read (only_keys (codes "format" ∷ codes "source" ∷ codes "component" ∷ codes "stream" ∷ codes "fd" ∷ []) top) _ topology fd_tables.2 in
    let sources = was_read (entries_from (source_of format.0) (codes "source") 1 source_tables.0) _ topology only.2 in
    let components = was_read (entries_from component_of (codes "component") 1 component_tables.0) _ topology sources.2 in
    let streams = was_read (entries_from stream_of (codes "stream") 1 stream_tables.0) _ topology components.2 in
    let fds = was_read (entries_from (fd_of format.0) (codes "fd") 1 fd_tables.0) _ topology streams.2 in
    subst IsAllowed (same_ok {X = Topology} (record { format = 2; sources = sources.0; components = components.0; streams = streams.0; fds = fds.0 }) topology fds.2)
    (both _ _ (good_entries (source_of format.0) allows_source (good_source format.0) (codes "source") 1 source_tables.0 sources.0 sources.1)
    (both _ _ (good_entries component_of allows_component good_component (codes "component") 1 component_tables.0 components.0 components.1)
    (both _ _ (good_entries stream_of allows_stream good_stream (codes "stream") 1 stream_tables.0 streams.0 streams.1)
    (good_entries (fd_of format.0) (allows_fd 2) (good_fd format.0) (codes "fd") 1 fd_tables.0 fds.0 fds.1))))
