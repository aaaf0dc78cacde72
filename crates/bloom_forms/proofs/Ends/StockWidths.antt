-- What a stock body keeps has the width of its columns.
use Rattle.std.proofs.Common.{◌≡◌, ◌+◌, ℕ, pos, Bool, not, List, [], ◌∷◌, ◌++◌, length, get_or, filter, ap, ◌∙◌, sym, inl, inr, length-append}
use Rattle.std.specs.List.{list_any, enumerate_from}
use Rattle.blz_value.specs.declared.value.Value.TheVariants.{Int}
use Rattle.blz_value.specs.Members.{Has}
use Rattle.blz_value.specs.Operators.{cells}
use Rattle.blz_value.specs.Record.{Row}
use Rattle.blz_value.specs.Sets.{set_of}
use Rattle.blz_value.proofs.Membership.{Has-append_cases, Has-from_map, Has-from_filter, Has-get_or, All-of_member}
use Rattle.blz_value.proofs.SetLaws.{Has-from_set_of}
use Rattle.blz_value.proofs.Lists.{from_numbers}
use Rattle.bloom_forms.specs.StockSteps.{has_key, is_latest, latest_kept, is_numbered, numbered, number_kept}
use Rattle.bloom_forms.specs.Widths.{AreWide}

-- rows are wide where each of them is
pub wide_by_rows : (n : ℕ) (rows : List Row) → ((r : Row) → Has r rows → length r ≡ n) → AreWide n rows
wide_by_rows n rows each k d lt = each (get_or rows k d) (Has-get_or rows k d lt)

pub row_wide : (n : ℕ) (rows : List Row) (r : Row) → AreWide n rows → Has r rows → length r ≡ n
row_wide n rows r wide h = All-of_member (λ (q : Row). length q ≡ n) rows r wide h

-- records with their numbers have one value more
pub numbered-wide : (n : ℕ) (kept arriving : List Row) → AreWide n arriving → (r : Row) → Has r (numbered kept arriving) → length r ≡ n + 1
numbered-wide n kept arriving wide r h =
    let new = filter (λ (q : Row). not (is_numbered kept q)) (set_of arriving) in
    let m = Has-from_map (λ (place : ℕ × Row). place.1 ++ Int (pos place.0) ∷ []) r (enumerate_from (length kept + 1) new) h in
    let stands = Has-from_set_of m.0.1 arriving (Has-from_filter (λ (q : Row). not (is_numbered kept q)) m.0.1 (set_of arriving) (from_numbers (length kept + 1) new m.0 m.1)).0 in
    let width = row_wide n arriving m.0.1 wide stands in
    ap length (sym m.2) ∙ length-append m.0.1 (Int (pos m.0.0) ∷ []) ∙ ap (λ k. k + 1) width

pub number_kept-wide : (n : ℕ) (kept arriving : List Row) → AreWide (n + 1) kept → AreWide n arriving → AreWide (n + 1) (number_kept kept arriving)
number_kept-wide n kept arriving old new =
    wide_by_rows (n + 1) (number_kept kept arriving) (λ r h. elim (Has-append_cases r kept (numbered kept arriving) (Has-from_set_of r (kept ++ numbered kept arriving) h)) [
      | inl o ↦ row_wide (n + 1) kept r old o
      | inr m ↦ numbered-wide n kept arriving new r m
    ])

pub latest_kept-wide : (n : ℕ) (keys : List ℕ) (kept put : List Row) → AreWide n kept → AreWide n put → AreWide n (latest_kept keys kept put)
latest_kept-wide n keys kept put old new =
    let stays : Row → Bool = λ (q : Row). not (list_any (has_key keys (cells keys q)) put) in
    wide_by_rows n (latest_kept keys kept put) (λ r h. elim (Has-append_cases r (filter stays kept) (filter (is_latest keys put) put) (Has-from_set_of r (filter stays kept ++ filter (is_latest keys put) put) h)) [
      | inl o ↦ row_wide n kept r old (Has-from_filter stays r kept o).0
      | inr m ↦ row_wide n put r new (Has-from_filter (is_latest keys put) r put m).0
    ])
