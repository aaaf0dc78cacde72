-- The rows of an expression that grows never become fewer.
use Rattle.std.proofs.Common.{◌≡◌, ℕ, ◌≤◌, Bool, true, List, length, sym, arith}
use Rattle.std.specs.Prelude.{nat_le}
use Rattle.std.specs.Ordering.{eq_by_cmp}
use Rattle.std.proofs.lemmas.Bool.{true≢false, and_parts}
use Rattle.std.proofs.lemmas.Bool.Decides.{nat_tests}
use Rattle.blz_value.specs.Groups.{with_key, at_least_rows}
use Rattle.blz_value.specs.Operators.{cells, select_rows, project_rows, join_rows}
use Rattle.blz_value.specs.Record.{Row, record_cmp}
use Rattle.blz_value.specs.Test.{test_holds}
use Rattle.blz_value.proofs.Membership.{Has-filter, Has-from_filter}
use Rattle.blz_value.proofs.OperatorsLemmas.{from_select, in_select, from_project, in_project, from_join, in_join, from_at_least, in_at_least, sorted_filter, length-within}
use Rattle.blz_value.proofs.SetLaws.{sorted_set_of}
use Rattle.bloom_forms.specs.declared.numbered.NumberedExpr.{NumberedExpr}
use Rattle.bloom_forms.specs.declared.numbered.NumberedExpr as expr
use Rattle.bloom_forms.specs.Step.{Sets, set_at}
use Rattle.bloom_eval.specs.NumberedRows.{numbered_rows}
use Rattle.bloom_index.specs.Code.Growth.{grows_at, grows, IsGrown}

more_often : (keys : List ℕ) (bound : ℕ) (old new : List Row) → IsGrown old new → (key : Row) → nat_le bound (length (with_key keys key old)) ≡ true → nat_le bound (length (with_key keys key new)) ≡ true
more_often keys bound old new g key t =
    let passes : Row → Bool = λ (r : Row). eq_by_cmp record_cmp (cells keys r) key in
    let more : length (with_key keys key old) ≤ length (with_key keys key new) =
    length-within (with_key keys key old) (with_key keys key new) (sorted_filter passes old g.old_sorted) (λ r h. let n = Has-from_filter passes r old h in Has-filter passes r new (g.within r n.0) n.1) in
    grind (arith, nat_tests)

module _ (growing : List Bool) (old new : Sets) (at : (k : ℕ) → grows_at growing k ≡ true → IsGrown (set_at old k) (set_at new k)) where
  pub grown : (e : NumberedExpr) → grows growing e ≡ true → IsGrown (numbered_rows old e) (numbered_rows new e)
  grown (expr.Base number) g = at number g
  grown (expr.Select' p e test) g =
      let part = grown e g in
      let rows = numbered_rows old e in
      let more = numbered_rows new e in
      record {
        old_sorted = sorted_set_of (select_rows (test_holds test) rows);
        new_sorted = sorted_set_of (select_rows (test_holds test) more);
        within = λ q h. let m = from_select (test_holds test) rows q h in in_select (test_holds test) more q (part.within q m.0) m.1;
      }
  grown (expr.Project' p e columns) g =
      let part = grown e g in
      let rows = numbered_rows old e in
      let more = numbered_rows new e in
      record {
        old_sorted = sorted_set_of (project_rows columns rows);
        new_sorted = sorted_set_of (project_rows columns more);
        within = λ q h. let m = from_project columns rows q h in in_project columns more q (record { source = m.source; stands = part.within m.source m.stands; is = m.is });
      }
  grown (expr.Join' p a q b pairs) g =
      let both = and_parts (grows growing a) (grows growing b) g in
      let left = grown a both.0 in
      let right = grown b both.1 in
      record {
        old_sorted = sorted_set_of (join_rows pairs (numbered_rows old a) (numbered_rows old b));
        new_sorted = sorted_set_of (join_rows pairs (numbered_rows new a) (numbered_rows new b));
        within = λ row h. let j = from_join pairs (numbered_rows old a) (numbered_rows old b) row h in
            in_join pairs (numbered_rows new a) (numbered_rows new b) row (record { left = j.left; left_stands = left.within j.left j.left_stands; right = j.right; right_stands = right.within j.right j.right_stands; agrees = j.agrees; is = j.is });
      }
  grown (expr.NotIn' p a q b pairs) g = absurd (true≢false (sym g))
  grown (expr.Group' p e keys agg) g = absurd (true≢false (sym g))
  grown (expr.AtLeast' p e keys bound) g =
      let part = grown e g in
      let rows = numbered_rows old e in
      let more = numbered_rows new e in
      record {
        old_sorted = sorted_set_of (at_least_rows keys bound rows);
        new_sorted = sorted_set_of (at_least_rows keys bound more);
        within = λ q h. let m = from_at_least keys bound rows q h in
            in_at_least keys bound more q (record { source = m.source; stands = part.within m.source m.stands; is = m.is; enough = more_often keys bound rows more part q m.enough });
      }
