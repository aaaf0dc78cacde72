-- Origins of the rows of stock bodies.
use Rattle.std.proofs.Common.{◌≡◌, ◌<◌, ◌+◌, ℕ, zero, suc, pos, Bool, cond, not, List, [], ◌∷◌, ◌++◌, length, get_or, map, filter, take, drop, None, refl, ap, ◌∙◌, sym, subst, ◌⊎◌, inl, inr, arith}
use Rattle.std.specs.Prelude.{◌==◌}
use Rattle.std.specs.List.{remove, list_any, enumerate_from}
use Rattle.std.proofs.lemmas.Bool.{cases_lt}
use Rattle.std.proofs.lemmas.List.{length-map, map-append, take-map, drop-map}
use Rattle.std.proofs.lemmas.List.Edits.{length-remove, get_or-remove_below, get_or-remove_above}
use Rattle.std.specs.Ordering.{eq_by_cmp}
use Rattle.blz_value.specs.declared.value.Value.{Value}
use Rattle.blz_value.specs.declared.value.Value.TheVariants.{Int}
use Rattle.blz_value.specs.Members.{Has}
use Rattle.blz_value.specs.Operators.{cells}
use Rattle.blz_value.specs.Record.{Row, record_cmp}
use Rattle.blz_value.specs.Sets.{set_of}
use Rattle.blz_value.specs.Test.{cell}
use Rattle.blz_value.proofs.Membership.{All-of_member, Has-append_cases, Has-from_filter, Has-from_map, Has-from_flat_map}
use Rattle.blz_value.proofs.SetLaws.{Has-from_set_of}
use Rattle.blz_value.specs.Names.{place_of}
use Rattle.blz_value.proofs.Lists.{from_numbers}
use Rattle.bloom_forms.specs.declared.program.Program.{Program}
use Rattle.bloom_forms.specs.declared.program.Program.TheVariants.{Split, Latest, Number}
use Rattle.bloom_forms.specs.Program.{port_columns}
use Rattle.bloom_forms.specs.ProgramStep.{tables_after_step, empty_tables}
use Rattle.bloom_forms.specs.Query.{Name}
use Rattle.bloom_forms.specs.Step.{Sets, set_at}
use Rattle.bloom_forms.specs.StockSteps.{parts_of, split_row, keys_in_order, has_key, is_latest, latest_kept, is_numbered, numbered}
use Rattle.bloom_forms.specs.Widths.{AreSetsOf}
use Rattle.bloom_forms.specs.Steps.{tables_after_steps, AreArrivals}
use Rattle.bloom_forms.specs.Annotation.{latest_roots}
use Rattle.bloom_forms.specs.CopiesLaw.{OutputsHaveOrigins}
use Rattle.bloom_forms.specs.HeadRoots.{attribute_roots}
use Rattle.bloom_forms.specs.Roots.{Roots}
use Rattle.bloom_forms.proofs.Copies.Copying.{AreCopies, KeepsRoots, copies-trans, copies-fewer, copies-more, rootless-none, keeps-append, chosen}
use Rattle.bloom_forms.proofs.Copies.ModuleOrigins.{stays, now_among, earlier_among}
use Rattle.bloom_forms.proofs.Copies.Runs.{wide_at, full-attributes}

-- a record that arrives in a step has the width of the port
wide_record : (program : Program) (earlier : List Sets) (now : Sets) (port : ℕ) (row : Row) → AreArrivals program (earlier ++ now ∷ []) → Has row (set_at now port) → length row ≡ length (get_or (port_columns program) port [])
wide_record program earlier now port row arrivals h =
    let sets = All-of_member (AreSetsOf (port_columns program)) (earlier ++ now ∷ []) now arrivals (now_among earlier now) in
    All-of_member (λ (r : Row). length r ≡ length (get_or (port_columns program) port [])) (set_at now port) row (wide_at (port_columns program) now sets port) h

-- ---- Split

-- without one column
copies-remove : (roots : Roots) (row : Row) (split : ℕ) → split < length roots → split < length row → AreCopies roots row (remove roots split) (remove row split)
copies-remove roots row split lt here number attribute is = elim (cases_lt number split) [
  | inl below ↦ (number, sym (get_or-remove_below roots split None number below lt) ∙ is, get_or-remove_below row split (Int (pos 0)) number below here)
  | inr above ↦ (number + 1, sym (get_or-remove_above roots split None number above lt) ∙ is, get_or-remove_above row split (Int (pos 0)) number above here)
]

attributes-remove : (names columns : List Name) (split : ℕ) → attribute_roots names (remove columns split) ≡ remove (attribute_roots names columns) split
attributes-remove names columns split =
    map-append (place_of names) (take split columns) (drop (suc split) columns)
    ∙ ap (λ (front : Roots). front ++ map (place_of names) (drop (suc split) columns)) (sym (take-map (place_of names) split columns))
    ∙ ap (λ (back : Roots). take split (attribute_roots names columns) ++ back) (sym (drop-map (place_of names) (suc split) columns))

split_copies : (names columns : List Name) (split : ℕ) (source : Row) (more : Row) → split < length columns → length source ≡ length columns
    → AreCopies (attribute_roots names columns) source (attribute_roots names (remove columns split) ++ None ∷ None ∷ []) (remove source split ++ more)
split_copies names columns split source more lt wide =
    let roots = attribute_roots names columns in
    let fewer = attribute_roots names (remove columns split) in
    let less : AreCopies roots source fewer (remove source split) = subst (λ (r : Roots). AreCopies roots source r (remove source split)) (sym (attributes-remove names columns split)) (copies-remove roots source split (omega (arith, lt, length-map columns (place_of names))) (omega (arith, lt, wide))) in
    let width : length (remove source split) ≡ length (remove columns split) = omega (arith, wide, length-remove source split (omega (arith, lt, wide)), length-remove columns split lt) in
    let keeps = keeps-append fewer fewer (None ∷ None ∷ []) (λ number attribute is. is) (rootless-none {X = ℕ} (0 ∷ 0 ∷ [])) in
    copies-trans roots source fewer (remove source split) (fewer ++ None ∷ None ∷ []) (remove source split ++ more) less (copies-more fewer (fewer ++ None ∷ None ∷ []) (remove source split) more (full-attributes names (remove columns split) (remove source split) width) keeps)

pub split_outputs : (names columns : List Name) (split : ℕ) → split < length columns → OutputsHaveOrigins names (Split columns split)
split_outputs names columns split lt earlier now zero row arrivals h =
    let m = Has-from_flat_map (split_row split) row (set_at now 0) (Has-from_set_of row _ h) in
    let tail : ℕ × Value → Row = λ part. Int (pos part.0) ∷ part.1 ∷ [] in
    let n = Has-from_map (λ (part : ℕ × Value). remove m.0 split ++ tail part) row (parts_of (cell m.0 split)) m.2 in
    let roots = attribute_roots names (remove columns split) ++ None ∷ None ∷ [] in
    record {
      now = now;
      came = now_among earlier now;
      port = 0;
      source = refl;
      copied = m.0;
      arrived = m.1;
      is = subst (λ (r : Row). AreCopies (attribute_roots names columns) m.0 roots r) n.2 (split_copies names columns split m.0 (tail n.0) lt (wide_record (Split columns split) earlier now 0 m.0 arrivals m.1));
    }
split_outputs names columns split lt earlier now (suc output) row arrivals h = absurd h

-- ---- Number

pub number_outputs : (names columns : List Name) → OutputsHaveOrigins names (Number columns)
number_outputs names columns earlier now zero row arrivals h =
    let kept = set_at (tables_after_steps (Number columns) earlier) 0 in
    let new = filter (λ (r : Row). not (is_numbered kept r)) (set_of (set_at now 0)) in
    let m = Has-from_map (λ (place : ℕ × Row). place.1 ++ Int (pos place.0) ∷ []) row (enumerate_from (length kept + 1) new) (Has-from_set_of row (numbered kept (set_at now 0)) h) in
    let source = m.0.1 in
    let arrived = Has-from_set_of source (set_at now 0) (Has-from_filter (λ (r : Row). not (is_numbered kept r)) source (set_of (set_at now 0)) (from_numbers (length kept + 1) new m.0 m.1)).0 in
    let roots = attribute_roots names columns in
    let keeps = keeps-append roots roots (None ∷ []) (λ number attribute is. is) (rootless-none {X = ℕ} (0 ∷ [])) in
    let full = full-attributes names columns source (wide_record (Number columns) earlier now 0 source arrivals arrived) in
    record {
      now = now;
      came = now_among earlier now;
      port = 0;
      source = refl;
      copied = source;
      arrived = arrived;
      is = subst (λ (r : Row). AreCopies roots source (roots ++ None ∷ []) r) m.2 (copies-more roots (roots ++ None ∷ []) source (Int (pos m.0.0) ∷ []) full keeps);
    }
number_outputs names columns earlier now (suc output) row arrivals h = absurd h

-- ---- Latest

-- each kept record arrived at `put`
abbrev KeptPut : List Sets → Sets → Type 0
KeptPut all kept = (row : Row) → Has row (set_at kept 0) → (now : Sets) × Has now all × Has row (set_at now 0)

from_kept : (keys : List ℕ) (kept put : List Row) (row : Row) → Has row (latest_kept keys kept put) → Has row kept ⊎ Has row put
from_kept keys kept put row h =
    let stays : Row → Bool = λ (r : Row). not (list_any (has_key keys (cells keys r)) put) in
    elim (Has-append_cases row (filter stays kept) (filter (is_latest keys put) put) (Has-from_set_of row (filter stays kept ++ filter (is_latest keys put) put) h)) [
      | inl old ↦ inl (Has-from_filter stays row kept old).0
      | inr new ↦ inr (Has-from_filter (is_latest keys put) row put new).0
    ]

still_put : (columns : List Name) (keys : List ℕ) (all : List Sets) (kept now : Sets) → Has now all → KeptPut all kept → KeptPut all (tables_after_step (Latest columns keys) kept now)
still_put columns keys all kept now came old row h = elim (from_kept (keys_in_order (length columns) keys) (set_at kept 0) (set_at now 0) row h) [ inl k ↦ old row k | inr p ↦ (now, came, p) ]

all_put : (columns : List Name) (keys : List ℕ) (earlier : List Sets) (now : Sets) → KeptPut (earlier ++ now ∷ []) (tables_after_steps (Latest columns keys) earlier)
all_put columns keys earlier now = stays (KeptPut (earlier ++ now ∷ [])) (tables_after_step (Latest columns keys)) (earlier ++ now ∷ []) earlier (still_put columns keys (earlier ++ now ∷ [])) (earlier_among earlier now) (empty_tables (Latest columns keys)) (λ row h. absurd h)

keeps-keys : (names : List Name) (keys : List ℕ) (from : ℕ) (columns : List Name) → KeepsRoots (attribute_roots names columns) (map (λ (place : ℕ × Name). cond (list_any (λ key. key == place.0) keys) (place_of names place.1) None) (enumerate_from from columns))
keeps-keys names keys from [] number attribute is = cc
keeps-keys names keys from (column ∷ columns) zero attribute is = (chosen (list_any (λ key. key == from) keys) (place_of names column) attribute is).1
keeps-keys names keys from (column ∷ columns) (suc number) attribute is = keeps-keys names keys (from + 1) columns number attribute is

pub latest_outputs : (names columns : List Name) (keys : List ℕ) → OutputsHaveOrigins names (Latest columns keys)
latest_outputs names columns keys earlier now zero row arrivals h =
    let in_order = keys_in_order (length columns) keys in
    let kept = set_at (tables_after_steps (Latest columns keys) earlier) 0 in
    let held = latest_kept in_order kept (set_at now 0) in
    let asked : Row → Bool = λ (r : Row). list_any (eq_by_cmp record_cmp (cells in_order r)) (set_at now 1) in
    let stands = (Has-from_filter asked row held (Has-from_set_of row (filter asked held) h)).0 in
    let put = still_put columns keys (earlier ++ now ∷ []) (tables_after_steps (Latest columns keys) earlier) now (now_among earlier now) (all_put columns keys earlier now) row stands in
    record {
      now = put.0;
      came = put.1;
      port = 0;
      source = refl;
      copied = row;
      arrived = put.2;
      is = copies-fewer (attribute_roots names columns) (latest_roots names columns keys) row (keeps-keys names keys 0 columns);
    }
latest_outputs names columns keys earlier now (suc output) row arrivals h = absurd h
