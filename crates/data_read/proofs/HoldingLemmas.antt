-- Data made of lists that fit fit too, and hold the dependencies.
use Rattle.std.proofs.Common.{◌≡◌, ℕ, zero, suc, ◌<◌, List, [], ◌∷◌, map, length, get_or, Option, Some, None, Ok, refl, ap, sym, subst, ◌∙◌}
use Rattle.std.specs.List.{All}
use Rattle.std.proofs.lemmas.List.{length-map}
use Rattle.blz_value.specs.Record.{Row}
use Rattle.blz_value.proofs.Membership.{Has-get_or, All-of_member}
use Rattle.topo_forms.specs.Data.{Data, SourceData, source_data, FitsSource, IsData, Holds, key_width}
use Rattle.topo_forms.specs.Messages.{distinct_rows}
use Rattle.topo_forms.specs.Valid.{Validated}
use Rattle.topo_forms.specs.View.{View, Stream, stream_at}
use Rattle.data_read.specs.declared.dependencies.BrokenFd.{BrokenFd}
use Rattle.data_read.specs.Broken.{first_broken}
use Rattle.data_read.proofs.BrokenLemmas.{unbroken_holds}
use Rattle.data_read.specs.Counting.{counted}
use Rattle.data_read.specs.Form.{form_of}
use Rattle.data_read.specs.Making.{distinct_lists, unbroken, upheld, data_from}
use Rattle.data_read.specs.Reading.{or_not_json, value_of, data_of}
use Rattle.data_read.specs.Shape.{shapes_of}
use Rattle.topo_forms.proofs.DistinctRows.{Has-from_distinct}
use Rattle.data_read.proofs.FormLemmas.{went_on, same_ok, form_fits, fitting}

all_distinct : (P : Row → Type 0) (rows : List Row) → All P rows → All P (distinct_rows rows)
all_distinct P rows all k d lt = All-of_member P rows (get_or (distinct_rows rows) k d) all (Has-from_distinct (get_or (distinct_rows rows) k d) rows (Has-get_or (distinct_rows rows) k d lt))

distinct_fits : (s : Stream) (d : SourceData) → FitsSource s d → FitsSource s (distinct_lists d)
distinct_fits s d fits = record {
  rows = all_distinct (λ row. length row ≡ length s.columns) d.rows fits.rows;
  parts = all_distinct (λ part. length part ≡ key_width s.key) d.parts fits.parts;
  none = λ e. ap distinct_rows (fits.none e);
}

distinct_at : (ds : List SourceData) (s : ℕ) → source_data (map distinct_lists ds) s ≡ distinct_lists (source_data ds s)
distinct_at [] s = refl
distinct_at (d ∷ ds) zero = refl
distinct_at (d ∷ ds) (suc s) = distinct_at ds s

pub distinct_data : (v : View) (ds : List SourceData) → IsData v ds → IsData v (map distinct_lists ds)
distinct_data v ds is = record {
  each = length-map ds distinct_lists ∙ is.each;
  fit = λ s lt. subst (FitsSource (stream_at v s)) (sym (distinct_at ds s)) (distinct_fits (stream_at v s) (source_data ds s) (is.fit s lt));
}

unbroken_none : (broken : Option BrokenFd) → unbroken broken ≡ Ok tt → broken ≡ None
unbroken_none None e = refl
unbroken_none (Some b) e = cc

upheld_holds : (v : View) (d : Data) → IsData v d → upheld v d ≡ Ok tt → Holds v d
upheld_holds v d is e = unbroken_holds v d is.each (unbroken_none (first_broken v d) e)

pub made : (v : View) (lists d : Data) → IsData v lists → data_from v lists ≡ Ok d → IsData v d × Holds v d
unfolding data_from
made v lists d is e =
    let few = went_on (counted v lists) _ d e in
    let holds = went_on (upheld v (map distinct_lists lists)) (λ _. Ok (map distinct_lists lists)) d few.2 in
    let same = same_ok (map distinct_lists lists) d holds.2 in
    let whole = distinct_data v lists is in
    (subst (IsData v) same whole, subst (Holds v) same (upheld_holds v (map distinct_lists lists) whole holds.1))

pub read_data : (t : Validated) (bytes : List ℕ) (d : Data) → data_of t bytes ≡ Ok d → IsData t.view d × Holds t.view d
unfolding data_of
read_data t bytes d e =
    let top = went_on (or_not_json (value_of bytes)) _ d e in
    let lists = went_on (form_of (shapes_of t) top.0) _ d top.2 in
    made t.view lists.0 d (fitting t lists.0 (form_fits (shapes_of t) top.0 lists.0 lists.1)) lists.2
