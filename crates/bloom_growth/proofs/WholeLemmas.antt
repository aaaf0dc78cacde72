-- Rows that are known by some of their columns, which are all that they have: no two of one width become one.
use Rattle.std.proofs.Common.{◌≡◌, ◌∙◌, ℕ, ◌<◌, ◌≤◌, ◌&&◌, Bool, true, false, not, List, [], ◌∷◌, length, filter, pos, refl, ap, sym, subst, inl, inr, arith}
use Rattle.std.proofs.lemmas.Bool.{cases_Bool}
use Rattle.std.proofs.lemmas.List.{ext_get_or, length-map}
use Rattle.std.specs.List.{All, list_all, range_with_len}
use Rattle.std.specs.Prelude.{nat_eq}
use Rattle.blz_value.specs.declared.value.Value.TheVariants.{Int}
use Rattle.blz_value.specs.Members.{Has}
use Rattle.blz_value.specs.Operators.{cells, project_rows}
use Rattle.blz_value.specs.Record.{Row}
use Rattle.blz_value.specs.Sets.{set_of, IsRowSet}
use Rattle.blz_value.specs.Test.{cell}
use Rattle.blz_value.proofs.Lists.{same_count}
use Rattle.blz_value.proofs.Membership.{all_member, All-of_member, Has-filter, Has-from_filter, Has-from_any}
use Rattle.blz_value.proofs.MembersInOrder.{in_range}
use Rattle.blz_value.proofs.OperatorsLemmas.{from_project, in_project, not_any, sorted_filter, length-within}
use Rattle.blz_value.proofs.RowSets.{length-set_of-le}
use Rattle.blz_value.proofs.SetLaws.{same_row_sets, sorted_set_of}
use Rattle.blz_set.specs.Missing.{missing_from}
use Rattle.blz_set.specs.RecordSet.{row_limit}
use Rattle.bloom_growth.specs.JoinTurns.{HaveWidth}
use Rattle.bloom_growth.specs.Turned.{Turned}
use Rattle.bloom_growth.specs.Whole.{has_column, keeps_all, counted_rows, WholeTurn}
use Rattle.bloom_growth.proofs.TurnedLemmas.{is_missing, held_or_not, came, comes, went, goes, more_sorted, gone_sorted}

-- ---- one row

-- rows that have the same in some columns have it in each of them
cell_same : (columns : List ℕ) (row other : Row) → cells columns row ≡ cells columns other → (column : ℕ) → Has column columns → cell row column ≡ cell other column
cell_same [] row other same column h = absurd h
cell_same (first ∷ columns) row other same column (inl e) =
    let here : cell row first ≡ cell other first = cc in
    subst (λ (n : ℕ). cell row n ≡ cell other n) e here
cell_same (first ∷ columns) row other same column (inr h) =
    let rest : cells columns row ≡ cells columns other = cc in
    cell_same columns row other rest column h

-- so a row is known by all of its columns
cells_known : (columns : List ℕ) (row other : Row) → length row ≡ length other → keeps_all columns row ≡ true → cells columns row ≡ cells columns other → row ≡ other
cells_known columns row other long whole same =
    ext_get_or (Int (pos 0)) row other long (λ column lt.
    let kept : has_column columns column ≡ true = all_member (has_column columns) (range_with_len 0 (length row)) column whole (in_range 0 (length row) column (omega arith) (omega (arith, lt))) in
    let place = Has-from_any (λ (n : ℕ). nat_eq n column) columns kept in
    cell_same columns row other same column (subst (λ (n : ℕ). Has n columns) (same_count place.0 column place.2) place.1))

-- ---- the columns of the rows that one list has and another lacks

abbrev IsWidth : ℕ → List Row → Type 0
IsWidth width rows = All (λ (row : Row). length row ≡ width) rows

missing_known : (columns : List ℕ) (width : ℕ) (rows others some : List Row) → IsWidth width rows → IsWidth width others → list_all (keeps_all columns) some ≡ true → ((q : Row) → Has q some → Has q others × ¬ Has q rows)
    → ((q : Row) → Has q others → ¬ Has q rows → Has q some) → set_of (project_rows columns some) ≡ missing_from (set_of (project_rows columns rows)) (set_of (project_rows columns others))
missing_known columns width rows others some rows_wide others_wide whole only all =
    is_missing (set_of (project_rows columns rows)) (set_of (project_rows columns others)) (set_of (project_rows columns some)) (sorted_set_of (project_rows columns others)) (sorted_set_of (project_rows columns some))
    (λ q h.
    let s = from_project columns some q h in
    let stands = only s.source s.stands in (
      in_project columns others q (record { source = s.source; stands = stands.0; is = s.is }),
      λ held.
          let o = from_project columns rows q held in
          let long : length s.source ≡ length o.source = All-of_member (λ (row : Row). length row ≡ width) others s.source others_wide stands.0 ∙ sym (All-of_member (λ (row : Row). length row ≡ width) rows o.source rows_wide o.stands) in
          let same : s.source ≡ o.source = cells_known columns s.source o.source long (all_member (keeps_all columns) some s.source whole s.stands) (s.is ∙ sym o.is) in
          stands.1 (subst (λ (row : Row). Has row rows) (sym same) o.stands),
    ))
    (λ q h lacks.
    let o = from_project columns others q h in
    in_project columns some q (record {
      source = o.source;
      stands = all o.source o.stands (λ held. lacks (in_project columns rows q (record { source = o.source; stands = held; is = o.is })));
      is = o.is;
    }))

-- ---- a part that changes

module _ (columns : List ℕ) (old new more gone : List Row) (t : Turned old new more gone) where
  -- where all columns of the rows that come and go are kept, as many are counted as before
  pub same_counted : list_all (keeps_all columns) more ≡ true → list_all (keeps_all columns) gone ≡ true → counted_rows columns old ≡ counted_rows columns new
  same_counted more_whole gone_whole =
      let counts = λ (row : Row). not (keeps_all columns row) in
      ap (project_rows columns) (same_row_sets (filter counts old) (filter counts new) (sorted_filter counts old t.old_sorted) (sorted_filter counts new t.new_sorted) (
        λ q h.
            let m = Has-from_filter counts q old h in
            elim (held_or_not new q) [
              | inl held ↦ Has-filter counts q new held m.1
              | inr lacks ↦ absurd (not_any (keeps_all columns q) m.1 (all_member (keeps_all columns) gone q gone_whole (goes old new more gone t q m.0 lacks)))
            ],
        λ q h.
            let m = Has-from_filter counts q new h in
            elim (held_or_not old q) [
              | inl held ↦ Has-filter counts q old held m.1
              | inr lacks ↦ absurd (not_any (keeps_all columns q) m.1 (all_member (keeps_all columns) more q more_whole (comes old new more gone t q m.0 lacks)))
            ],
      ))

  module _ (width : ℕ) (wide : HaveWidth width old new) where
    -- and what comes and goes of the columns is what comes and goes of the rows
    pub whole_turned : list_all (keeps_all columns) more ≡ true → list_all (keeps_all columns) gone ≡ true
        → Turned (set_of (project_rows columns old)) (set_of (project_rows columns new)) (set_of (project_rows columns more)) (set_of (project_rows columns gone))
    whole_turned more_whole gone_whole = record {
      old_sorted = sorted_set_of (project_rows columns old);
      new_sorted = sorted_set_of (project_rows columns new);
      more_is = missing_known columns width old new more wide.0 wide.1 more_whole (came old new more gone t) (comes old new more gone t);
      gone_is = missing_known columns width new old gone wide.1 wide.0 gone_whole (went old new more gone t) (goes old new more gone t);
    }

    -- where they aren't, some row lacks a column
    some_fails : (rows : List Row) → list_all (keeps_all columns) rows ≡ false → (row : Row) × Has row rows × (keeps_all columns row ≡ false)
    some_fails [] e = cc
    some_fails (row ∷ rows) e = elim (cases_Bool (keeps_all columns row)) [
      | inl whole ↦ let rest = some_fails rows (sym (ap (λ (b : Bool). b && list_all (keeps_all columns) rows) whole) ∙ e) in (rest.0, inr rest.1, rest.2)
      | inr fails ↦ (row, inl refl, fails)
    ]

    lacking : (list_all (keeps_all columns) more && list_all (keeps_all columns) gone) ≡ false → (row : Row) × (length row ≡ width) × (keeps_all columns row ≡ false)
    lacking e = elim (cases_Bool (list_all (keeps_all columns) more)) [
      | inl whole ↦
          let f = some_fails gone (sym (ap (λ (b : Bool). b && list_all (keeps_all columns) gone) whole) ∙ e) in
          (f.0, All-of_member (λ (row : Row). length row ≡ width) old f.0 wide.0 (went old new more gone t f.0 f.1).0, f.2)
      | inr fails ↦
          let f = some_fails more fails in
          (f.0, All-of_member (λ (row : Row). length row ≡ width) new f.0 wide.1 (came old new more gone t f.0 f.1).0, f.2)
    ]

    -- and then all are counted
    all_counted : (row : Row) → length row ≡ width → keeps_all columns row ≡ false → (rows : List Row) → IsRowSet rows → All (λ (other : Row). length other ≡ width) rows → counted_rows columns rows ≡ project_rows columns rows
    all_counted row long fails rows sorted rows_wide =
        let counts = λ (other : Row). not (keeps_all columns other) in
        ap (project_rows columns) (same_row_sets (filter counts rows) rows (sorted_filter counts rows sorted) sorted (
          λ q h. (Has-from_filter counts q rows h).0,
          λ q h.
              let alike : length q ≡ length row = All-of_member (λ (other : Row). length other ≡ width) rows q rows_wide h ∙ sym long in
              let lacks : keeps_all columns q ≡ false = ap (λ (n : ℕ). list_all (has_column columns) (range_with_len 0 n)) alike ∙ fails in
              Has-filter counts q rows h (ap not lacks),
        ))

    pub old_counted : (list_all (keeps_all columns) more && list_all (keeps_all columns) gone) ≡ false → counted_rows columns old ≡ project_rows columns old
    old_counted e = let f = lacking e in all_counted f.0 f.1 f.2 old t.old_sorted wide.0

    pub new_counted : (list_all (keeps_all columns) more && list_all (keeps_all columns) gone) ≡ false → counted_rows columns new ≡ project_rows columns new
    new_counted e = let f = lacking e in all_counted f.0 f.1 f.2 new t.new_sorted wide.1

-- ---- how many

module _ (columns : List ℕ) (old new more gone : List Row) (t : WholeTurn columns old new more gone) where
  few_projected : (rows : List Row) → length rows ≤ row_limit → length (set_of (project_rows columns rows)) ≤ row_limit
  few_projected rows few = omega (arith, few, length-set_of-le (project_rows columns rows), length-map rows (cells columns))

  pub few_more : length (set_of (project_rows columns more)) ≤ row_limit
  few_more = few_projected more (omega (arith, t.few_new, length-within more new (more_sorted old new more gone t.turned) (λ q h. (came old new more gone t.turned q h).0)))

  pub few_gone : length (set_of (project_rows columns gone)) ≤ row_limit
  few_gone = few_projected gone (omega (arith, t.few_old, length-within gone old (gone_sorted old new more gone t.turned) (λ q h. (went old new more gone t.turned q h).0)))

  pub few_new : length (set_of (project_rows columns new)) ≤ row_limit
  few_new = few_projected new t.few_new
