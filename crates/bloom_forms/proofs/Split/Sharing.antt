-- An expression over parts that its operators keep apart has the rows that it has over each part.
use Rattle.std.proofs.Common.{◌≡◌, ℕ, Bool, true, List, ◌∷◌, [], ◌++◌, length, refl, ap, ◌∙◌, sym, subst, inl}
use Rattle.std.specs.Prelude.{nat_le}
use Rattle.std.specs.Ordering.{eq_by_cmp}
use Rattle.blz_value.specs.Groups.{aggregate, with_key}
use Rattle.blz_value.specs.Members.{Has}
use Rattle.blz_value.specs.Operators.{Pairs, cells, agree}
use Rattle.blz_value.specs.Record.{Row, record_cmp}
use Rattle.blz_value.specs.Sets.{IsRowSet}
use Rattle.blz_value.proofs.Membership.{Has-append_left, Has-append_right, Has-filter, Has-from_filter}
use Rattle.blz_value.proofs.OperatorsLemmas.{from_select, in_select, from_project, in_project, from_join, in_join, from_notin, in_notin, from_group, in_group, from_at_least, in_at_least, same_with_key}
use Rattle.bloom_forms.specs.Columns.{columns_of, pair_numbers}
use Rattle.bloom_forms.specs.Equations.{Env}
use Rattle.bloom_forms.specs.Heads.{names_of}
use Rattle.bloom_forms.specs.Query.{Name, Query}
use Rattle.bloom_forms.specs.Query.Query.{base, select, project, join, notin, group, at_least}
use Rattle.bloom_forms.specs.Rows.{formula_holds, item_numbers, column_numbers, numbered_agg, row_bound, rows_of}
use Rattle.bloom_forms.proofs.Split.ClassesLemmas.{same_row}
use Rattle.bloom_forms.proofs.Rows.Linear.{IsUnionOf}

-- How the proof goes.
-- The parts are environments, one for each class, and the whole is their union name by name.
-- select and project go row by row, so they split without a condition.
-- A join or a notin splits where rows that agree on its pairs are of one part.
-- A group or an atleast splits where rows with the same keys are of one part.
-- KeepsApart asks exactly this of each operator of an expression.

module _ (columns : Name → List Name) {J : Type 0} (each : J → Env) (whole : Env) where
  -- rows of two parts that agree are rows of one part
  abbrev pub AreApart : (p q : Query) → Pairs → Type 0
  AreApart p q pairs = (i j : J) (l r : Row) → Has l (rows_of columns (each i) p) → Has r (rows_of columns (each j) q) → agree pairs l r ≡ true → i ≡ j

  -- the same of the keys of one expression, whose rows are sorted
  pub record AreKeptApart (q : Query) (numbers : List ℕ) : Type 0 where
    pub apart : (i j : J) (r s : Row) → Has r (rows_of columns (each i) q) → Has s (rows_of columns (each j) q)
        → cells numbers r ≡ cells numbers s → i ≡ j
    pub sorted : (j : J) → IsRowSet (rows_of columns (each j) q)
    pub whole_sorted : IsRowSet (rows_of columns whole q)

  -- each operator keeps the parts apart
  abbrev pub KeepsApart : Query → Type 0
  KeepsApart (base name) = Unit {0}
  KeepsApart (select q f) = KeepsApart q
  KeepsApart (project q items) = KeepsApart q
  KeepsApart (join p q pairs) = AreApart p q (pair_numbers (columns_of columns p) (columns_of columns q) pairs) × KeepsApart p × KeepsApart q
  KeepsApart (notin p q pairs) = AreApart p q (pair_numbers (columns_of columns p) (columns_of columns q) pairs) × KeepsApart p × KeepsApart q
  KeepsApart (group q keys agg name) = AreKeptApart q (column_numbers (columns_of columns q) keys) × KeepsApart q
  KeepsApart (at_least q keys bound) = AreKeptApart q (column_numbers (columns_of columns q) keys) × KeepsApart q

  -- the rows over the whole are those over the parts
  abbrev pub IsShared : Query → Type 0
  IsShared q = IsUnionOf {J = J} (λ j. rows_of columns (each j) q) (rows_of columns whole q)

  -- all rows with the keys of a row are in its part
  same_keys : (q : Query) (numbers : List ℕ) → AreKeptApart q numbers → IsShared q → (j : J) (row key : Row)
      → Has row (rows_of columns (each j) q) → cells numbers row ≡ key
      → with_key numbers key (rows_of columns whole q) ≡ with_key numbers key (rows_of columns (each j) q)
  same_keys q numbers kept shared j row key stands is =
      let has_key : Row → Bool = λ (r : Row). eq_by_cmp record_cmp (cells numbers r) key in
      let all = rows_of columns whole q in
      let part = rows_of columns (each j) q in
      same_with_key numbers key all part kept.whole_sorted (kept.sorted j) (
        λ r h.
            let m = Has-from_filter has_key r all h in
            let s = shared.some r m.0 in
            let same : s.0 ≡ j = kept.apart s.0 j r row s.1 stands (same_row (cells numbers r) key m.1 ∙ sym is) in
            Has-filter has_key r part (subst (λ (i : J). Has r (rows_of columns (each i) q)) same s.1) m.1,
        λ r h.
            let m = Has-from_filter has_key r part h in
            Has-filter has_key r all (shared.inside j r m.0) m.1,
      )

  pub shared : (q : Query) → KeepsApart q → ((n : Name) → Has n (names_of q) → IsShared (base n)) → IsShared q
  shared (base name) apart parts = parts name (inl refl)
  shared (select q f) apart parts =
      let u = shared q apart parts in
      let p = formula_holds (columns_of columns q) f in
      record {
        some = λ row h. let m = from_select p (rows_of columns whole q) row h in let s = u.some row m.0 in (s.0, in_select p (rows_of columns (each s.0) q) row s.1 m.1);
        inside = λ j row h. let m = from_select p (rows_of columns (each j) q) row h in in_select p (rows_of columns whole q) row (u.inside j row m.0) m.1;
      }
  shared (project q items) apart parts =
      let u = shared q apart parts in
      let numbers = item_numbers (columns_of columns q) items in
      record {
        some = λ row h. let m = from_project numbers (rows_of columns whole q) row h in let s = u.some m.source m.stands in (s.0, in_project numbers (rows_of columns (each s.0) q) row (record { source = m.source; stands = s.1; is = m.is }));
        inside = λ j row h. let m = from_project numbers (rows_of columns (each j) q) row h in in_project numbers (rows_of columns whole q) row (record { source = m.source; stands = u.inside j m.source m.stands; is = m.is });
      }
  shared (join p q pairs) apart parts =
      let numbers = pair_numbers (columns_of columns p) (columns_of columns q) pairs in
      let u = shared p apart.1 (λ n h. parts n (Has-append_left n (names_of p) (names_of q) h)) in
      let v = shared q apart.2 (λ n h. parts n (Has-append_right n (names_of p) (names_of q) h)) in
      record {
        some = λ row h.
            let m = from_join numbers (rows_of columns whole p) (rows_of columns whole q) row h in
            let s = u.some m.left m.left_stands in
            let t = v.some m.right m.right_stands in
            let same : t.0 ≡ s.0 = sym (apart.0 s.0 t.0 m.left m.right s.1 t.1 m.agrees) in
            (s.0, in_join numbers (rows_of columns (each s.0) p) (rows_of columns (each s.0) q) row (record { left = m.left; left_stands = s.1; right = m.right; right_stands = subst (λ (j : J). Has m.right (rows_of columns (each j) q)) same t.1; agrees = m.agrees; is = m.is }));
        inside = λ j row h.
            let m = from_join numbers (rows_of columns (each j) p) (rows_of columns (each j) q) row h in
            in_join numbers (rows_of columns whole p) (rows_of columns whole q) row (record { left = m.left; left_stands = u.inside j m.left m.left_stands; right = m.right; right_stands = v.inside j m.right m.right_stands; agrees = m.agrees; is = m.is });
      }
  shared (notin p q pairs) apart parts =
      let numbers = pair_numbers (columns_of columns p) (columns_of columns q) pairs in
      let u = shared p apart.1 (λ n h. parts n (Has-append_left n (names_of p) (names_of q) h)) in
      let v = shared q apart.2 (λ n h. parts n (Has-append_right n (names_of p) (names_of q) h)) in
      record {
        some = λ row h.
            let m = from_notin numbers (rows_of columns whole p) (rows_of columns whole q) row h in
            let s = u.some row m.stands in
            (s.0, in_notin numbers (rows_of columns (each s.0) p) (rows_of columns (each s.0) q) row (record { stands = s.1; none = λ r stands. m.none r (v.inside s.0 r stands) }));
        inside = λ j row h.
            let m = from_notin numbers (rows_of columns (each j) p) (rows_of columns (each j) q) row h in
            in_notin numbers (rows_of columns whole p) (rows_of columns whole q) row (record {
              stands = u.inside j row m.stands;
              none = λ r stands agrees.
                  let t = v.some r stands in
                  let same : t.0 ≡ j = sym (apart.0 j t.0 row r m.stands t.1 agrees) in
                  m.none r (subst (λ (i : J). Has r (rows_of columns (each i) q)) same t.1) agrees;
            });
      }
  shared (group q keys agg name) apart parts =
      let numbers = column_numbers (columns_of columns q) keys in
      let by_number = numbered_agg (columns_of columns q) agg in
      let u = shared q apart.1 parts in
      record {
        some = λ row h.
            let m = from_group numbers by_number (rows_of columns whole q) row h in
            let s = u.some m.source m.stands in
            let same = same_keys q numbers apart.0 u s.0 m.source (cells numbers m.source) s.1 refl in
            (s.0, in_group numbers by_number (rows_of columns (each s.0) q) row (record { source = m.source; stands = s.1; is = ap (λ (rows : List Row). cells numbers m.source ++ aggregate by_number rows ∷ []) (sym same) ∙ m.is }));
        inside = λ j row h.
            let m = from_group numbers by_number (rows_of columns (each j) q) row h in
            let same = same_keys q numbers apart.0 u j m.source (cells numbers m.source) m.stands refl in
            in_group numbers by_number (rows_of columns whole q) row (record { source = m.source; stands = u.inside j m.source m.stands; is = ap (λ (rows : List Row). cells numbers m.source ++ aggregate by_number rows ∷ []) same ∙ m.is });
      }
  shared (at_least q keys bound) apart parts =
      let numbers = column_numbers (columns_of columns q) keys in
      let u = shared q apart.1 parts in
      record {
        some = λ row h.
            let m = from_at_least numbers (row_bound bound) (rows_of columns whole q) row h in
            let s = u.some m.source m.stands in
            let same = same_keys q numbers apart.0 u s.0 m.source row s.1 m.is in
            (s.0, in_at_least numbers (row_bound bound) (rows_of columns (each s.0) q) row (record { source = m.source; stands = s.1; is = m.is; enough = ap (λ (rows : List Row). nat_le (row_bound bound) (length rows)) (sym same) ∙ m.enough }));
        inside = λ j row h.
            let m = from_at_least numbers (row_bound bound) (rows_of columns (each j) q) row h in
            let same = same_keys q numbers apart.0 u j m.source row m.stands m.is in
            in_at_least numbers (row_bound bound) (rows_of columns whole q) row (record { source = m.source; stands = u.inside j m.source m.stands; is = m.is; enough = ap (λ (rows : List Row). nat_le (row_bound bound) (length rows)) same ∙ m.enough });
      }
