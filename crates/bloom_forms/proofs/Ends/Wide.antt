-- Each row of an expression has as many values as the expression has columns.
use Rattle.std.proofs.Common.{◌≡◌, ℕ, suc, ◌+◌, Bool, true, false, cond, not, List, [], ◌∷◌, ◌++◌, length, length-append, get_or, map, filter, refl, ap, ◌∙◌, sym, arith}
use Rattle.std.proofs.lemmas.List.{length-map}
use Rattle.std.specs.Prelude.{nat_le}
use Rattle.std.specs.List.{enumerate_from, list_any}
use Rattle.blz_value.specs.Members.{Has}
use Rattle.blz_value.specs.Record.{Row}
use Rattle.blz_value.specs.Operators.{Pairs, cells, is_paired, unpaired, agree, joined, select_rows, project_rows, join_rows, notin_rows}
use Rattle.blz_value.specs.Groups.{aggregate, with_key, group_rows, at_least_rows}
use Rattle.blz_value.proofs.Membership.{Has-from_filter, Has-from_map, Has-from_flat_map, Has-get_or, All-of_member}
use Rattle.blz_value.proofs.SetLaws.{Has-from_set_of}
use Rattle.bloom_forms.specs.Query.{Name, Query}
use Rattle.bloom_forms.specs.Query.Query.{base, select, project, join, notin, group, at_least}
use Rattle.bloom_forms.specs.Columns.{columns_of, pair_numbers}
use Rattle.bloom_forms.specs.Rows.{formula_holds, item_numbers, column_numbers, numbered_agg, row_bound, rows_of}
use Rattle.bloom_forms.specs.Widths.{AreWide}

-- as many values as names stand in no pair
length-unpaired : {X Y : Type 0} (pairs : Pairs) (k : ℕ) (xs : List X) (ys : List Y) → length xs ≡ length ys
    → length (map (λ (p : ℕ × X). p.1) (filter (λ (p : ℕ × X). not (is_paired pairs p.0)) (enumerate_from k xs))) ≡ length (map (λ (p : ℕ × Y). p.1) (filter (λ (p : ℕ × Y). not (is_paired pairs p.0)) (enumerate_from k ys)))
length-unpaired pairs k [] [] e = refl
length-unpaired pairs k [] (y ∷ ys) e = absurd (omega (arith, e))
length-unpaired pairs k (x ∷ xs) [] e = absurd (omega (arith, e))
length-unpaired {X = X} {Y = Y} pairs k (x ∷ xs) (y ∷ ys) e = go (not (is_paired pairs k)) (length-unpaired pairs (k + 1) xs ys (omega (arith, e)))
  where
    go : (b : Bool) → length (map (λ (p : ℕ × X). p.1) (filter (λ (p : ℕ × X). not (is_paired pairs p.0)) (enumerate_from (k + 1) xs))) ≡ length (map (λ (p : ℕ × Y). p.1) (filter (λ (p : ℕ × Y). not (is_paired pairs p.0)) (enumerate_from (k + 1) ys)))
        → length (map (λ (p : ℕ × X). p.1) (cond b ((k, x) ∷ filter (λ (p : ℕ × X). not (is_paired pairs p.0)) (enumerate_from (k + 1) xs)) (filter (λ (p : ℕ × X). not (is_paired pairs p.0)) (enumerate_from (k + 1) xs))))
        ≡ length (map (λ (p : ℕ × Y). p.1) (cond b ((k, y) ∷ filter (λ (p : ℕ × Y). not (is_paired pairs p.0)) (enumerate_from (k + 1) ys)) (filter (λ (p : ℕ × Y). not (is_paired pairs p.0)) (enumerate_from (k + 1) ys))))
    go true more = ap suc more
    go false more = more

module _ (columns : Name → List Name) (env : Name → List Row) (wide : (name : Name) → AreWide (length (columns name)) (env name)) where
  wide_by : (q : Query) (row : Row) → Has row (rows_of columns env q) → length row ≡ length (columns_of columns q)
  wide_by (base name) row h = All-of_member (λ (r : Row). length r ≡ length (columns name)) (env name) row (wide name) h
  wide_by (select q f) row h = wide_by q row (Has-from_filter (formula_holds (columns_of columns q) f) row (rows_of columns env q) (Has-from_set_of row (select_rows (formula_holds (columns_of columns q) f) (rows_of columns env q)) h)).0
  wide_by (project q items) row h =
      let numbers = item_numbers (columns_of columns q) items in
      let m = Has-from_map (cells numbers) row (rows_of columns env q) (Has-from_set_of row (project_rows numbers (rows_of columns env q)) h) in
      ap length (sym m.2) ∙ length-map numbers _ ∙ length-map items _ ∙ sym (length-map items _)
  wide_by (join a b pairs) row h =
      let numbers = pair_numbers (columns_of columns a) (columns_of columns b) pairs in
      let lefts = rows_of columns env a in
      let rights = rows_of columns env b in
      let m = Has-from_flat_map (λ (left : Row). map (joined numbers left) (filter (agree numbers left) rights)) row lefts (Has-from_set_of row (join_rows numbers lefts rights) h) in
      let n = Has-from_map (joined numbers m.0) row (filter (agree numbers m.0) rights) m.2 in
      let right_in = (Has-from_filter (agree numbers m.0) n.0 rights n.1).0 in
      let left : length m.0 ≡ length (columns_of columns a) = wide_by a m.0 m.1 in
      let right : length (unpaired numbers n.0) ≡ length (unpaired numbers (columns_of columns b)) = length-unpaired numbers 0 n.0 (columns_of columns b) (wide_by b n.0 right_in) in
      ap length (sym n.2) ∙ length-append m.0 (unpaired numbers n.0) ∙ (λ i. left i + right i) ∙ sym (length-append (columns_of columns a) (unpaired numbers (columns_of columns b)))
  wide_by (notin a b pairs) row h =
      let numbers = pair_numbers (columns_of columns a) (columns_of columns b) pairs in
      wide_by a row (Has-from_filter (λ (left : Row). not (list_any (agree numbers left) (rows_of columns env b))) row (rows_of columns env a) (Has-from_set_of row (notin_rows numbers (rows_of columns env a) (rows_of columns env b)) h)).0
  wide_by (group q keys agg name) row h =
      let numbers = column_numbers (columns_of columns q) keys in
      let by_number = numbered_agg (columns_of columns q) agg in
      let rows = rows_of columns env q in
      let m = Has-from_map (λ (key : Row). key ++ aggregate by_number (with_key numbers key rows) ∷ []) row (project_rows numbers rows) (Has-from_set_of row (group_rows numbers by_number rows) h) in
      let n = Has-from_map (cells numbers) m.0 rows m.1 in
      let key : length m.0 ≡ length keys = ap length (sym n.2) ∙ length-map numbers _ ∙ length-map keys _ in
      ap length (sym m.2) ∙ length-append m.0 (aggregate by_number (with_key numbers m.0 rows) ∷ []) ∙ ap (λ n. n + 1) key ∙ sym (length-append keys (name ∷ []))
  wide_by (at_least q keys bound) row h =
      let numbers = column_numbers (columns_of columns q) keys in
      let rows = rows_of columns env q in
      let m = (Has-from_filter (λ (key : Row). nat_le (row_bound bound) (length (with_key numbers key rows))) row (project_rows numbers rows) (Has-from_set_of row (at_least_rows numbers (row_bound bound) rows) h)).0 in
      let n = Has-from_map (cells numbers) row rows m in
      ap length (sym n.2) ∙ length-map numbers _ ∙ length-map keys _

  pub wide_rows : (q : Query) → AreWide (length (columns_of columns q)) (rows_of columns env q)
  wide_rows q k d lt = wide_by q (get_or (rows_of columns env q) k d) (Has-get_or (rows_of columns env q) k d lt)
