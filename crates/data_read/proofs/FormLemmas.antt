-- Lists that are read have the shapes of their sources.
use Rattle.std.proofs.Common.{◌≡◌, ℕ, zero, suc, ◌+◌, ◌<◌, ◌==◌, Bool, true, false, List, [], ◌∷◌, length, get_or, Option, Some, None, Result, Ok, Err, refl, ap, sym, subst, ◌∙◌, inl, inr, arith, if◌then◌else◌}
use Rattle.std.specs.Prelude.{codes, is_some}
use Rattle.std.specs.List.{All}
use Rattle.std.proofs.lemmas.Bool.{eqb-true}
use Rattle.std.proofs.lemmas.List.{length-map}
use Rattle.std.proofs.lemmas.List.FromFn.{length-map-range_with_len, get_or-map-range_with_len}
use Rattle.blz_value.specs.declared.attrs.Attrs.{Attrs}
use Rattle.blz_value.specs.Bits.{members}
use Rattle.blz_value.specs.Members.{Has}
use Rattle.blz_value.specs.Record.{Row}
use Rattle.blz_value.proofs.Membership.{Has-get_or}
use Rattle.blz_value.proofs.Options.{same_some}
use Rattle.serde_json.specs.Data.{Data as Json, null, boolean, number, string, array, object, Items, no_items, item}
use Rattle.serde_json.specs.Events.{items_len}
use Rattle.serde_json.specs.Find.{get, get_member, as_array, as_object}
use Rattle.topo_forms.specs.Data.{SourceData, no_data, source_data, FitsSource, IsData, key_places, key_width}
use Rattle.topo_forms.specs.Valid.{Validated}
use Rattle.topo_forms.specs.View.{stream_at, source_count}
use Rattle.topo_forms.specs.declared.topology.ColumnType.{ColumnType}
use Rattle.data_read.specs.declared.shape.Shape.{Shape}
use Rattle.data_read.specs.declared.fault.DataFault.{DataFault}
use Rattle.data_read.specs.Entry.{Entry, entry_in, only_rows, list_or_none, entry_keys}
use Rattle.data_read.specs.Form.{or_break, records_in, lists_in, source_in, sources_in, first_name, names_of, no_entry, form_of}
use Rattle.data_read.specs.Keys.{has_only, unknown_key}
use Rattle.data_read.specs.Shape.{type_at, key_types, shape_of, shapes_of}
use Rattle.data_read.specs.Steps.{◌>>=◌}
use Rattle.data_read.specs.Values.{value_in, values_in, row_in, record_in}
use Rattle.data_read.proofs.WeightLemmas.{gave, tested}

-- ---- the steps of a reading

-- what went on was given
pub went_on : {A B : Type 0} (m : Result A DataFault) (next : A → Result B DataFault) (y : B) → (m >>= next) ≡ Ok y → (x : A) × (m ≡ Ok x) × (next x ≡ Ok y)
went_on (Ok x) next y e = (x, refl, e)
went_on (Err f) next y e = cc

abbrev pub given : {X : Type 0} → X → Result X DataFault
given x = Ok x

pub same_ok : {X : Type 0} (x y : X) → given x ≡ given y → x ≡ y
same_ok x y e = cc

not_broken : {X : Type 0} (name : List ℕ) (row : ℕ) (o : Option X) (x : X) → or_break name row o ≡ Ok x → o ≡ Some x
not_broken name row (Some y) x e = ap Some (same_ok y x e)
not_broken name row None x e = cc

-- ---- widths

values_width : (types : List ColumnType) (ds : Items) (row : Row) → values_in types ds ≡ Some row → length row ≡ items_len ds
values_width types no_items row e = ap length (sym (same_some [] row e))
values_width [] (item d ds) row e = cc
values_width (t ∷ ts) (item d ds) row e =
    let first = gave (value_in t d) _ row e in
    let others = gave (values_in ts ds) _ row first.2 in
    ap length (sym (same_some (first.0 ∷ others.0) row others.2)) ∙ ap suc (values_width ts ds others.0 others.1)

row_width : (types : List ColumnType) (ds : Items) (row : Row) → row_in types ds ≡ Some row → length row ≡ length types
row_width types ds row e = go (items_len ds == length types) refl e
  where
    go : (b : Bool) → (items_len ds == length types) ≡ b → (if b then values_in types ds else None) ≡ Some row → length row ≡ length types
    go true t e = values_width types ds row e ∙ eqb-true (items_len ds) (length types) t
    go false t e = cc

record_width : (types : List ColumnType) (d : Json) (row : Row) → record_in types d ≡ Some row → length row ≡ length types
record_width types d row e = let ds = gave (as_array d) (row_in types) row e in row_width types ds.0 row ds.2

-- each row of a list is as wide as the types
pub records_width : (types : List ColumnType) (name : List ℕ) (n : ℕ) (ds : Items) (rows : List Row) → records_in types name n ds ≡ Ok rows → (row : Row) → Has row rows → length row ≡ length types
records_width types name n no_items rows e row h = absurd (subst (λ rs. Has row rs) (sym (same_ok [] rows e)) h)
records_width types name n (item d ds) rows e row h =
    let first = went_on (or_break name n (record_in types d)) _ rows e in
    let others = went_on (records_in types name (n + 1) ds) _ rows first.2 in
    go first.0 others.0 (record_width types d first.0 (not_broken name n (record_in types d) first.0 first.1))
    (records_width types name (n + 1) ds others.0 others.1 row) (subst (λ rs. Has row rs) (sym (same_ok (first.0 ∷ others.0) rows others.2)) h)
  where
    go : (one : Row) (rest : List Row) → length one ≡ length types → (Has row rest → length row ≡ length types) → Has row (one ∷ rest) → length row ≡ length types
    go one rest w more (inl s) = subst (λ (r : Row). length r ≡ length types) s w
    go one rest w more (inr m) = more m

-- ---- shapes

-- as wide as the shape says; without a key no parts
pub record FitsShape (shape : Shape) (d : SourceData) : Type 0 where
  pub rows : (row : Row) → Has row d.rows → length row ≡ length shape.types
  pub parts : (row : Row) → Has row d.parts → length row ≡ length shape.key
  pub none : shape.is_sealed ≡ false → d.parts ≡ []

no_parts : (d : Json) (lists : Entry) → entry_in false d ≡ Some lists → lists.1 ≡ no_items
no_parts null lists e = absurd cc
no_parts (boolean b) lists e = absurd cc
no_parts (number n) lists e = absurd cc
no_parts (string s) lists e = absurd cc
no_parts (array ds) lists e = subst (λ (l : Entry). l.1 ≡ no_items) (same_some (only_rows ds) lists e) refl
no_parts (object ms) lists e =
    let rows = gave (list_or_none (get_member (codes "rows") ms)) _ lists e in
    let held = tested {X = Entry} (has_only (entry_keys false) ms) (rows.0, no_items) lists rows.2 in
    subst (λ (l : Entry). l.1 ≡ no_items) held.1 refl

none_read : (types : List ColumnType) (name : List ℕ) (n : ℕ) (ds : Items) (rows : List Row) → ds ≡ no_items → records_in types name n ds ≡ Ok rows → rows ≡ []
none_read types name n no_items rows is e = sym (same_ok [] rows e)
none_read types name n (item d ds) rows is e = cc

unsealed : (b : Bool) (d : Json) (lists : Entry) → entry_in b d ≡ Some lists → b ≡ false → lists.1 ≡ no_items
unsealed true d lists e f = cc
unsealed false d lists e f = no_parts d lists e

lists_fit : (shape : Shape) (d : Json) (lists : SourceData) → lists_in shape d ≡ Ok lists → FitsShape shape lists
unfolding lists_in
lists_fit shape d lists e =
    let entry = went_on (or_break shape.name 0 (entry_in shape.is_sealed d)) _ lists e in
    let rows = went_on (records_in shape.types shape.name 1 entry.0.0) _ lists entry.2 in
    let parts = went_on (records_in shape.key shape.name (1 + items_len entry.0.0) entry.0.1) _ lists rows.2 in
    let is = same_ok {X = SourceData} (record { rows = rows.0; parts = parts.0 }) lists parts.2 in
    let whole = not_broken shape.name 0 (entry_in shape.is_sealed d) entry.0 entry.1 in
    subst (FitsShape shape) is (record {
      rows = records_width shape.types shape.name 1 entry.0.0 rows.0 rows.1;
      parts = records_width shape.key shape.name (1 + items_len entry.0.0) entry.0.1 parts.0 parts.1;
      none = λ f. none_read shape.key shape.name (1 + items_len entry.0.0) entry.0.1 parts.0 (unsealed shape.is_sealed d entry.0 whole f) parts.1;
    })

nothing_fits : (shape : Shape) → FitsShape shape no_data
nothing_fits shape = record { rows = λ row h. absurd h; parts = λ row h. absurd h; none = λ f. refl }

source_fits : (shape : Shape) (o : Option Json) (lists : SourceData) → source_in shape o ≡ Ok lists → FitsShape shape lists
source_fits shape None lists e = subst (FitsShape shape) (same_ok no_data lists e) (nothing_fits shape)
source_fits shape (Some d) lists e = lists_fit shape d lists e

-- lists have the shapes, one after the other
abbrev pub AllFit : List Shape → List SourceData → Type 0
AllFit [] [] = Unit {0}
AllFit [] (d ∷ ds) = ⊥
AllFit (shape ∷ shapes) [] = ⊥
AllFit (shape ∷ shapes) (d ∷ ds) = FitsShape shape d × AllFit shapes ds

sources_fit : (shapes : List Shape) (top : Json) (ds : List SourceData) → sources_in shapes top ≡ Ok ds → AllFit shapes ds
sources_fit [] top ds e = subst (AllFit []) (same_ok [] ds e) tt
sources_fit (shape ∷ shapes) top ds e =
    let first = went_on (source_in shape (get shape.name top)) _ ds e in
    let others = went_on (sources_in shapes top) _ ds first.2 in
    subst (AllFit (shape ∷ shapes)) (same_ok (first.0 ∷ others.0) ds others.2) (source_fits shape (get shape.name top) first.0 first.1, sources_fit shapes top others.0 others.1)

pub form_fits : (shapes : List Shape) (top : Json) (ds : List SourceData) → form_of shapes top ≡ Ok ds → AllFit shapes ds
unfolding form_of
form_fits shapes top ds e =
    let object = went_on (or_break (first_name shapes) 0 (as_object top)) _ ds e in
    let sources = went_on (sources_in shapes top) _ ds object.2 in
    let only = went_on (no_entry (unknown_key (names_of shapes) object.0)) (λ _. Ok sources.0) ds sources.2 in
    subst (AllFit shapes) (same_ok sources.0 ds only.2) (sources_fit shapes top sources.0 sources.1)

pub all_length : (shapes : List Shape) (ds : List SourceData) → AllFit shapes ds → length ds ≡ length shapes
all_length [] [] h = refl
all_length [] (d ∷ ds) h = absurd h
all_length (shape ∷ shapes) [] h = absurd h
all_length (shape ∷ shapes) (d ∷ ds) h = ap suc (all_length shapes ds h.1)

all_at : (shapes : List Shape) (ds : List SourceData) (s : ℕ) (e : Shape) → AllFit shapes ds → s < length shapes → FitsShape (get_or shapes s e) (get_or ds s no_data)
all_at [] ds s e h lt = absurd (omega arith)
all_at (shape ∷ shapes) [] s e h lt = absurd h
all_at (shape ∷ shapes) (d ∷ ds) zero e h lt = h.0
all_at (shape ∷ shapes) (d ∷ ds) (suc s) e h lt = all_at shapes ds s e h.1 (omega arith)

-- ---- data

pub shape_count : (t : Validated) → length (shapes_of t) ≡ source_count t.view
shape_count t = length-map-range_with_len (shape_of t) 0 (source_count t.view)

key_width_is : (t : Validated) (s : ℕ) (o : Option Attrs) → length (key_types t s o) ≡ key_width o
key_width_is t s None = refl
key_width_is t s (Some key) = length-map (key_places (stream_at t.view s).columns key.bits) (type_at t s) ∙ length-map (members key.bits) _

sealed_none : (o : Option Attrs) → o ≡ None → is_some o ≡ false
sealed_none None e = refl
sealed_none (Some key) e = cc

all_of : (P : Row → Type 0) (xs : List Row) → ((q : Row) → Has q xs → P q) → All P xs
all_of P xs f k d lt = f (get_or xs k d) (Has-get_or xs k d lt)

-- what has the shape of a source fits it
of_source : (t : Validated) (s : ℕ) (d : SourceData) → FitsShape (shape_of t s) d → FitsSource (stream_at t.view s) d
of_source t s d fits = record {
  rows = all_of (λ row. length row ≡ length (stream_at t.view s).columns) d.rows (λ row h. fits.rows row h ∙ length-map-range_with_len (type_at t s) 0 (length (stream_at t.view s).columns));
  parts = all_of (λ part. length part ≡ key_width (stream_at t.view s).key) d.parts (λ part h. fits.parts part h ∙ key_width_is t s (stream_at t.view s).key);
  none = λ e. fits.none (sealed_none (stream_at t.view s).key e);
}

pub fitting : (t : Validated) (ds : List SourceData) → AllFit (shapes_of t) ds → IsData t.view ds
fitting t ds fit = record {
  each = all_length (shapes_of t) ds fit ∙ shape_count t;
  fit = λ s lt. of_source t s (source_data ds s) (subst (λ shape. FitsShape shape (source_data ds s)) (get_or-map-range_with_len (shape_of t) 0 (source_count t.view) s s (shape_of t s) lt (omega arith)) (all_at (shapes_of t) ds s (shape_of t s) fit (omega (arith, lt, shape_count t))));
}
