-- Lists that give the same rows equally often, and the columns of a part's rows.
use Rattle.std.proofs.Common.{◌≡◌, ℕ, ◌+◌, ◌<◌, ◌≤◌, not, List, [], ◌∷◌, ◌++◌, length, map, filter, take, drop, get_or, take-append-drop, length-append, Result, Ok, Err, ap, ◌∙◌, sym, subst, inl, inr, arith}
use Rattle.std.proofs.lemmas.List.{length-map, map-append, take_more, drop_more}
use Rattle.std.proofs.lemmas.List.Elements.{filter-append}
use Rattle.std.specs.Ordering.{eq_by_cmp}
use Rattle.std.specs.Prelude.{OnOk}
use Rattle.blz_value.specs.Members.{Has}
use Rattle.blz_value.specs.Operators.{cells, project_rows}
use Rattle.blz_value.specs.Record.{Row, record_cmp}
use Rattle.blz_value.specs.RecordOrder.{record_cmp_total, record_cmp_exact}
use Rattle.blz_value.specs.Sets.{set_of}
use Rattle.blz_value.proofs.Membership.{Has-append_left, Has-append_right, Has-append_cases}
use Rattle.blz_value.proofs.OperatorsLemmas.{length-within}
use Rattle.blz_value.proofs.RowSets.{same_set_of, length-set_of-le}
use Rattle.blz_value.proofs.SetLaws.{sorted_set_of, Has-set_of, Has-from_set_of}
use Rattle.blz_set.specs.Missing.{has_row, missing_from}
use Rattle.blz_set.specs.RecordSet.{row_limit}
use Rattle.blz_set.proofs.RecordSets.{length-filter-le}
use Rattle.blz_set.specs.declared.fault.SetFault.{SetFault}
use Rattle.blz_set.specs.declared.fault.SetFault.TheVariants.{TooManyRows, NoMemory}
use Rattle.bloom_growth.specs.declared.bag.Bag.{Bag}
use Rattle.bloom_growth.specs.Bags.{IsBag, BecomesBag, ColumnsTurn}
use Rattle.bloom_growth.specs.Growth.{Extends}
use Rattle.bloom_growth.specs.Turned.{TurnsInto}
use Rattle.bloom_growth.specs.Counts.{times, given, most_given}
use Rattle.bloom_growth.proofs.BagsLemmas.{extends_none}
use Rattle.bloom_growth.proofs.Extending.{fresh_is_in}
use Rattle.bloom_growth.proofs.TurnedLemmas.{stays}
use Rattle.bloom_growth.proofs.CountsLemmas.{times_has, has_times, count_union}

-- what holds holds where all goes well
pub on_ok : {T E P : Type 0} (r : Result T E) → P → OnOk r P
on_ok (Ok x) p = p
on_ok (Err e) p = tt

-- lists that give each row equally often
abbrev pub GiveAlike : (xs ys : List Row) → Type 0
GiveAlike xs ys = (row : Row) → times record_cmp xs row ≡ times record_cmp ys row

pub times-append : (xs ys : List Row) (row : Row) → times record_cmp (xs ++ ys) row ≡ times record_cmp xs row + times record_cmp ys row
times-append xs ys row =
    let test = λ (other : Row). eq_by_cmp record_cmp other row in
    ap length (filter-append test xs ys) ∙ length-append (filter test xs) (filter test ys)

-- such lists have the same rows
pub alike_rows : (xs ys : List Row) → GiveAlike xs ys → set_of xs ≡ set_of ys
alike_rows xs ys same =
    same_set_of xs ys (
      λ q h. times_has record_cmp_total record_cmp_exact ys q (subst (λ (n : ℕ). 0 < n) (same q) (has_times record_cmp_total record_cmp_exact xs q h)),
      λ q h. times_has record_cmp_total record_cmp_exact xs q (subst (λ (n : ℕ). 0 < n) (sym (same q)) (has_times record_cmp_total record_cmp_exact ys q h)),
    )

-- and are of the same bags
pub alike_bag : (xs ys : List Row) (bag : Bag) → GiveAlike xs ys → IsBag xs bag → IsBag ys bag
alike_bag xs ys bag same is = record {
  counted = λ row. is.counted row ∙ ap given (same row);
  few = subst (λ (l : List Row). length l ≤ row_limit) (alike_rows xs ys same) is.few;
}

-- columns of rows that grow are those of the old and of the new ones
pub alike_columns : (columns : List ℕ) (old new fresh : List Row) → Extends old new fresh → GiveAlike (project_rows columns new) (project_rows columns fresh ++ project_rows columns old)
alike_columns columns old new fresh e row =
    let test = λ (other : Row). eq_by_cmp record_cmp other row in
    let whole = ap (λ (l : List Row). length (filter test (map (cells columns) l))) e.all in
    let parts = count_union (cells columns) test old fresh e.sorted e.fresh_sorted (λ q h f. e.apart q f h) in
    omega (arith, whole, parts, times-append (project_rows columns fresh) (project_rows columns old) row)

-- ---- the rows of a list one by one

module _ (columns : List ℕ) (items : List Row) (i : ℕ) (row : Row) (lt : i < length items) (is : row ≡ get_or items i row) where
  -- the columns of the rows from here on
  pub columns_from : project_rows columns (drop i items) ≡ cells columns row ∷ project_rows columns (drop (i + 1) items)
  columns_from = ap (project_rows columns) (drop_more items i row lt ∙ ap (λ (r : Row). r ∷ drop (i + 1) items) (sym is))

  -- and those of the rows up to here
  pub columns_to : (rows : List Row) → GiveAlike (cells columns row ∷ (project_rows columns (take i items) ++ rows)) (project_rows columns (take (i + 1) items) ++ rows)
  columns_to rows q =
      let before = project_rows columns (take i items) in
      let after = project_rows columns (take (i + 1) items) in
      let more : after ≡ before ++ cells columns row ∷ [] = ap (project_rows columns) (take_more items i row lt ∙ ap (λ (r : Row). take i items ++ r ∷ []) (sym is)) ∙ map-append (cells columns) (take i items) (row ∷ []) in
      let one = times-append (cells columns row ∷ []) (before ++ rows) q in
      let whole = ap (λ (l : List Row). times record_cmp (l ++ rows) q) more in
      omega (arith, one, whole, times-append before rows q, times-append (before ++ cells columns row ∷ []) rows q, times-append before (cells columns row ∷ []) q)

  -- rows that are too many on the way are so in the end
  pub columns_over : (rows : List Row) → row_limit < length (set_of (cells columns row ∷ (project_rows columns (take i items) ++ rows))) → row_limit < length (set_of (project_rows columns items ++ rows))
  columns_over rows over =
      let before = project_rows columns (take i items) in
      let all = project_rows columns items in
      let split : before ++ project_rows columns (drop i items) ≡ all = sym (map-append (cells columns) (take i items) (drop i items)) ∙ ap (project_rows columns) (take-append-drop i items) in
      omega (
        arith,
        over,
        length-within (set_of (cells columns row ∷ (before ++ rows))) (set_of (all ++ rows)) (sorted_set_of (cells columns row ∷ (before ++ rows))) (
            λ q h. Has-set_of q (all ++ rows) (elim (Has-from_set_of q (cells columns row ∷ (before ++ rows)) h) [
              | inl e ↦ Has-append_left q all rows (subst (λ (l : List Row). Has q l) split (Has-append_right q before (project_rows columns (drop i items)) (subst (λ (l : List Row). Has q l) (sym columns_from) (inl e))))
              | inr m ↦ elim (Has-append_cases q before rows m) [
                | inl b ↦ Has-append_left q all rows (subst (λ (l : List Row). Has q l) split (Has-append_left q before (project_rows columns (drop i items)) b))
                | inr r ↦ Has-append_right q all rows r
              ]
            ])
            ),
      )

  pub put_fault : (rows : List Row) (bag : Bag) (fault : SetFault) → BecomesBag {X = Unit {0}} (cells columns row ∷ (project_rows columns (take i items) ++ rows)) bag (Err fault) → BecomesBag {X = Unit {0}} (project_rows columns items ++ rows) bag (Err fault)
  put_fault rows bag TooManyRows h = columns_over rows h
  put_fault rows bag NoMemory h = tt

-- ---- a part that changes

module _ (columns : List ℕ) (old new more gone : List Row) (bag : Bag) (t : ColumnsTurn columns old new more gone bag) where
  -- the bag as that of what goes and what stays
  pub columns_start : IsBag (project_rows columns gone ++ project_rows columns (missing_from gone old)) bag
  columns_start =
      alike_bag (project_rows columns old) (project_rows columns gone ++ project_rows columns (missing_from gone old)) bag
      (alike_columns columns (missing_from gone old) old gone (stays old new more gone t.turned).0) t.stand

  pub start_rows : (left : List Row) → left ≡ [] → Extends (set_of (project_rows columns gone ++ project_rows columns (missing_from gone old))) (set_of (project_rows columns old)) left
  start_rows left none =
      let same = alike_rows (project_rows columns old) (project_rows columns gone ++ project_rows columns (missing_from gone old)) (alike_columns columns (missing_from gone old) old gone (stays old new more gone t.turned).0) in
      subst (λ (l : List Row). Extends l (set_of (project_rows columns old)) left) same (extends_none (set_of (project_rows columns old)) left (sorted_set_of (project_rows columns old)) none)

  -- and of what comes and what stays
  pub columns_end : GiveAlike (project_rows columns more ++ project_rows columns (missing_from gone old)) (project_rows columns new)
  columns_end row = sym (alike_columns columns (missing_from gone old) new more (stays old new more gone t.turned).1 row)

  pub few_columns : length (project_rows columns (missing_from gone old)) + length more < most_given
  few_columns =
      let kept = stays old new more gone t.turned in
      let some = length-within more new kept.1.fresh_sorted (fresh_is_in (missing_from gone old) new more kept.1) in
      let rest = length-filter-le (λ (row : Row). not (has_row gone row)) old in
      omega (arith, t.few_old, t.few_new, some, rest, length-map (missing_from gone old) (cells columns))

  pub few_end : length (set_of (project_rows columns new)) ≤ row_limit
  few_end = omega (arith, t.few_new, length-set_of-le (project_rows columns new), length-map new (cells columns))

  pub columns_fault : (after : Bag) (fault : SetFault) → BecomesBag {X = Unit {0}} (project_rows columns more ++ project_rows columns (missing_from gone old)) after (Err fault) → TurnsInto (set_of (project_rows columns old)) (set_of (project_rows columns new)) (Err fault)
  columns_fault after TooManyRows h = subst (λ (l : List Row). row_limit < length l) (alike_rows (project_rows columns more ++ project_rows columns (missing_from gone old)) (project_rows columns new) columns_end) h
  columns_fault after NoMemory h = tt
