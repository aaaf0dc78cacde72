-- Expressions without group and notin lose no row where what they name grows.
use Rattle.std.proofs.Common.{◌≡◌, ◌≤◌, ℕ, Bool, true, false, List, length, refl, inl, arith, rules}
use Rattle.std.specs.Prelude.{nat_le}
use Rattle.std.specs.Ordering.{eq_by_cmp}
use Rattle.std.proofs.lemmas.Bool.{and_parts}
use Rattle.blz_value.specs.Groups.{with_key, group_rows, at_least_rows}
use Rattle.blz_value.specs.Members.{Has, IsWithin}
use Rattle.blz_value.specs.Operators.{cells, select_rows, project_rows, join_rows, notin_rows}
use Rattle.blz_value.specs.Record.{Row, record_cmp}
use Rattle.blz_value.specs.Sets.{IsRowSet}
use Rattle.blz_value.proofs.Membership.{Has-append_left, Has-append_right, Has-filter, Has-from_filter}
use Rattle.blz_value.proofs.SetLaws.{sorted_set_of}
use Rattle.blz_value.proofs.OperatorsLemmas.{from_select, in_select, from_project, in_project, from_join, in_join, from_at_least, in_at_least, sorted_filter, length-within}
use Rattle.bloom_forms.specs.Columns.{columns_of, pair_numbers}
use Rattle.bloom_forms.specs.Equations.{Env}
use Rattle.bloom_forms.specs.Heads.{names_of}
use Rattle.bloom_forms.specs.Query.{Name, Query}
use Rattle.bloom_forms.specs.Query.Query.{base, select, project, join, notin, group, at_least}
use Rattle.bloom_forms.specs.Rows.{formula_holds, item_numbers, column_numbers, numbered_agg, row_bound, rows_of}
use Rattle.bloom_forms.specs.Plain.{is_plain}

module _ (columns : Name → List Name) where
  -- the rows of an expression are sorted where those of the collections are that it names
  pub sorted_rows : (env : Env) (q : Query) → ((n : Name) → Has n (names_of q) → IsRowSet (env n)) → IsRowSet (rows_of columns env q)
  sorted_rows env (base n) sorted = sorted n (inl refl)
  sorted_rows env (select q f) sorted = sorted_set_of (select_rows (formula_holds (columns_of columns q) f) (rows_of columns env q))
  sorted_rows env (project q items) sorted = sorted_set_of (project_rows (item_numbers (columns_of columns q) items) (rows_of columns env q))
  sorted_rows env (join a b pairs) sorted = sorted_set_of (join_rows (pair_numbers (columns_of columns a) (columns_of columns b) pairs) (rows_of columns env a) (rows_of columns env b))
  sorted_rows env (notin a b pairs) sorted = sorted_set_of (notin_rows (pair_numbers (columns_of columns a) (columns_of columns b) pairs) (rows_of columns env a) (rows_of columns env b))
  sorted_rows env (group q keys agg name) sorted = sorted_set_of (group_rows (column_numbers (columns_of columns q) keys) (numbered_agg (columns_of columns q) agg) (rows_of columns env q))
  sorted_rows env (at_least q keys bound) sorted = sorted_set_of (at_least_rows (column_numbers (columns_of columns q) keys) (row_bound bound) (rows_of columns env q))

  enough_more : (bound : ℕ) (m n : ℕ) → m ≤ n → nat_le bound m ≡ true → nat_le bound n ≡ true
  enough_more bound m n le t = let small : bound ≤ m = search rules in let more : bound ≤ n = omega arith in search rules

  module _ (env more : Env) where
    pub grows : (q : Query) → is_plain q ≡ true → ((n : Name) → Has n (names_of q) → IsRowSet (env n))
        → ((n : Name) → Has n (names_of q) → IsWithin (env n) (more n))
        → IsWithin (rows_of columns env q) (rows_of columns more q)
    grows (base n) plain sorted inside row h = inside n (inl refl) row h
    grows (select q f) plain sorted inside row h =
        let p = formula_holds (columns_of columns q) f in
        let m = from_select p (rows_of columns env q) row h in
        in_select p (rows_of columns more q) row (grows q plain sorted inside row m.0) m.1
    grows (project q items) plain sorted inside row h =
        let numbers = item_numbers (columns_of columns q) items in
        let m = from_project numbers (rows_of columns env q) row h in
        in_project numbers (rows_of columns more q) row (record { source = m.source; stands = grows q plain sorted inside m.source m.stands; is = m.is })
    grows (join a b pairs) plain sorted inside row h =
        let numbers = pair_numbers (columns_of columns a) (columns_of columns b) pairs in
        let both = and_parts (is_plain a) (is_plain b) plain in
        let m = from_join numbers (rows_of columns env a) (rows_of columns env b) row h in
        in_join numbers (rows_of columns more a) (rows_of columns more b) row (record {
          left = m.left;
          left_stands = grows a both.0 (λ n g. sorted n (Has-append_left n (names_of a) (names_of b) g)) (λ n g. inside n (Has-append_left n (names_of a) (names_of b) g)) m.left m.left_stands;
          right = m.right;
          right_stands = grows b both.1 (λ n g. sorted n (Has-append_right n (names_of a) (names_of b) g)) (λ n g. inside n (Has-append_right n (names_of a) (names_of b) g)) m.right m.right_stands;
          agrees = m.agrees;
          is = m.is;
        })
    grows (notin a b pairs) plain sorted inside row h = absurd (let bad : false ≡ true = plain in cc)
    grows (group q keys agg name) plain sorted inside row h = absurd (let bad : false ≡ true = plain in cc)
    grows (at_least q keys bound) plain sorted inside row h =
        let numbers = column_numbers (columns_of columns q) keys in
        let fewer = rows_of columns env q in
        let rows = rows_of columns more q in
        let m = from_at_least numbers (row_bound bound) fewer row h in
        let part = grows q plain sorted inside in
        let has_key : Row → Bool = λ (r : Row). eq_by_cmp record_cmp (cells numbers r) row in
        let longer : length (with_key numbers row fewer) ≤ length (with_key numbers row rows) = length-within (with_key numbers row fewer) (with_key numbers row rows) (sorted_filter has_key fewer (sorted_rows env q sorted))
        (λ r g. let n = Has-from_filter has_key r fewer g in Has-filter has_key r rows (part r n.0) n.1) in
        in_at_least numbers (row_bound bound) rows row (record { source = m.source; stands = part m.source m.stands; is = m.is; enough = enough_more (row_bound bound) _ _ longer m.enough })
