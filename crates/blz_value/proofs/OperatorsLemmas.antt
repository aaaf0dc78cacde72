-- The rows that each operator gives, by membership.
use Rattle.std.proofs.Common.{◌≡◌, ◌≤◌, ℕ, Bool, true, false, not, List, [], ◌∷◌, ◌++◌, length, map, filter, refl, ap, ◌∙◌, subst, inl, inr, arith}
use Rattle.std.specs.Prelude.{nat_le}
use Rattle.std.specs.List.{list_any}
use Rattle.std.proofs.lemmas.Bool.{cases_Bool}
use Rattle.std.proofs.lemmas.List.Kept.{IsStrictlySortedBy-filter}
use Rattle.blz_value.specs.declared.aggregate.Agg.{Agg}
use Rattle.blz_value.specs.Groups.{aggregate, with_key, group_rows, at_least_rows}
use Rattle.blz_value.specs.Members.{Has, IsWithin, HaveEqualMembers}
use Rattle.blz_value.specs.Operators.{Pairs, cells, agree, joined, select_rows, project_rows, join_rows, notin_rows}
use Rattle.blz_value.specs.Record.{Row, record_cmp}
use Rattle.blz_value.specs.Sets.{set_of, IsRowSet}
use Rattle.blz_value.proofs.Membership.{Has-append_left, Has-append_cases, Has-filter, Has-from_filter, Has-map, Has-from_map, Has-flat_map, Has-from_flat_map, any_from_Has, Has-from_any}
use Rattle.blz_value.proofs.RowSets.{same_set_of, set_of-sorted, length-set_of-le, length-set_of-append_right}
use Rattle.blz_value.proofs.SetLaws.{Has-set_of, Has-from_set_of, same_row_sets}

-- ---- select

pub from_select : (p : Row → Bool) (rows : List Row) (row : Row) → Has row (set_of (select_rows p rows)) → Has row rows × (p row ≡ true)
from_select p rows row h = Has-from_filter p row rows (Has-from_set_of row (select_rows p rows) h)

pub in_select : (p : Row → Bool) (rows : List Row) (row : Row) → Has row rows → p row ≡ true → Has row (set_of (select_rows p rows))
in_select p rows row h t = Has-set_of row (select_rows p rows) (Has-filter p row rows h t)

-- ---- project

-- a row that some columns of a row of the part make
pub record IsProjected (numbers : List ℕ) (rows : List Row) (row : Row) : Type 0 where
  pub source : Row
  pub stands : Has source rows
  pub is : cells numbers source ≡ row

pub from_project : (numbers : List ℕ) (rows : List Row) (row : Row) → Has row (set_of (project_rows numbers rows))
    → IsProjected numbers rows row
from_project numbers rows row h = let m = Has-from_map (cells numbers) row rows (Has-from_set_of row (project_rows numbers rows) h) in record { source = m.0; stands = m.1; is = m.2 }

pub in_project : (numbers : List ℕ) (rows : List Row) (row : Row) → IsProjected numbers rows row
    → Has row (set_of (project_rows numbers rows))
in_project numbers rows row p = Has-set_of row (project_rows numbers rows) (subst (λ (r : Row). Has r (project_rows numbers rows)) p.is (Has-map (cells numbers) p.source rows p.stands))

-- ---- join

-- a row that a left and a right row make which agree on all pairs
pub record IsJoined (pairs : Pairs) (lefts rights : List Row) (row : Row) : Type 0 where
  pub left : Row
  pub left_stands : Has left lefts
  pub right : Row
  pub right_stands : Has right rights
  pub agrees : agree pairs left right ≡ true
  pub is : joined pairs left right ≡ row

pub from_join : (pairs : Pairs) (lefts rights : List Row) (row : Row) → Has row (set_of (join_rows pairs lefts rights))
    → IsJoined pairs lefts rights row
from_join pairs lefts rights row h =
    let m = Has-from_flat_map (λ (l : Row). map (joined pairs l) (filter (agree pairs l) rights)) row lefts (Has-from_set_of row (join_rows pairs lefts rights) h) in
    let n = Has-from_map (joined pairs m.0) row (filter (agree pairs m.0) rights) m.2 in
    let k = Has-from_filter (agree pairs m.0) n.0 rights n.1 in
    record { left = m.0; left_stands = m.1; right = n.0; right_stands = k.0; agrees = k.1; is = n.2 }

pub in_join : (pairs : Pairs) (lefts rights : List Row) (row : Row) → IsJoined pairs lefts rights row
    → Has row (set_of (join_rows pairs lefts rights))
in_join pairs lefts rights row j =
    let made : Has row (map (joined pairs j.left) (filter (agree pairs j.left) rights)) = subst (λ (r : Row). Has r (map (joined pairs j.left) (filter (agree pairs j.left) rights))) j.is (Has-map (joined pairs j.left) j.right (filter (agree pairs j.left) rights) (Has-filter (agree pairs j.left) j.right rights j.right_stands j.agrees)) in
    Has-set_of row (join_rows pairs lefts rights) (Has-flat_map (λ (l : Row). map (joined pairs l) (filter (agree pairs l) rights)) j.left row lefts j.left_stands made)

-- ---- notin

-- a left row that agrees with no right row
pub record IsAlone (pairs : Pairs) (lefts rights : List Row) (row : Row) : Type 0 where
  pub stands : Has row lefts
  pub none : (right : Row) → Has right rights → agree pairs row right ≡ true → ⊥

pub not_any : (b : Bool) → not b ≡ true → b ≡ true → ⊥
not_any true e t = cc
not_any false e t = cc

pub from_notin : (pairs : Pairs) (lefts rights : List Row) (row : Row)
    → Has row (set_of (notin_rows pairs lefts rights)) → IsAlone pairs lefts rights row
from_notin pairs lefts rights row h =
    let m = Has-from_filter (λ (l : Row). not (list_any (agree pairs l) rights)) row lefts (Has-from_set_of row (notin_rows pairs lefts rights) h) in
    record { stands = m.0; none = λ right stands agrees. not_any (list_any (agree pairs row) rights) m.1 (any_from_Has (agree pairs row) right rights stands agrees) }

pub in_notin : (pairs : Pairs) (lefts rights : List Row) (row : Row) → IsAlone pairs lefts rights row
    → Has row (set_of (notin_rows pairs lefts rights))
in_notin pairs lefts rights row a =
    Has-set_of row (notin_rows pairs lefts rights) (Has-filter (λ (l : Row). not (list_any (agree pairs l) rights)) row lefts a.stands (elim (cases_Bool (list_any (agree pairs row) rights)) [
      | inl t ↦ absurd (let m = Has-from_any (agree pairs row) rights t in a.none m.0 m.1 m.2)
      | inr f ↦ rw f refl
    ]))

-- ---- group

-- the keys of a row of the part, with the aggregate of all rows that have them
pub record IsGrouped (numbers : List ℕ) (agg : Agg) (rows : List Row) (row : Row) : Type 0 where
  pub source : Row
  pub stands : Has source rows
  pub is : cells numbers source ++ aggregate agg (with_key numbers (cells numbers source) rows) ∷ [] ≡ row

pub from_group : (numbers : List ℕ) (agg : Agg) (rows : List Row) (row : Row)
    → Has row (set_of (group_rows numbers agg rows)) → IsGrouped numbers agg rows row
from_group numbers agg rows row h =
    let with_value : Row → Row = λ (key : Row). key ++ aggregate agg (with_key numbers key rows) ∷ [] in
    let m = Has-from_map with_value row (project_rows numbers rows) (Has-from_set_of row (group_rows numbers agg rows) h) in
    let n = Has-from_map (cells numbers) m.0 rows m.1 in
    record { source = n.0; stands = n.1; is = ap with_value n.2 ∙ m.2 }

pub in_group : (numbers : List ℕ) (agg : Agg) (rows : List Row) (row : Row) → IsGrouped numbers agg rows row
    → Has row (set_of (group_rows numbers agg rows))
in_group numbers agg rows row g =
    let with_value : Row → Row = λ (key : Row). key ++ aggregate agg (with_key numbers key rows) ∷ [] in
    Has-set_of row (group_rows numbers agg rows) (subst (λ (r : Row). Has r (group_rows numbers agg rows)) g.is (Has-map with_value (cells numbers g.source) (project_rows numbers rows) (Has-map (cells numbers) g.source rows g.stands)))

-- ---- atleast

-- the keys of a row of the part, which enough rows have
pub record IsOften (numbers : List ℕ) (bound : ℕ) (rows : List Row) (row : Row) : Type 0 where
  pub source : Row
  pub stands : Has source rows
  pub is : cells numbers source ≡ row
  pub enough : nat_le bound (length (with_key numbers row rows)) ≡ true

pub from_at_least : (numbers : List ℕ) (bound : ℕ) (rows : List Row) (row : Row)
    → Has row (set_of (at_least_rows numbers bound rows)) → IsOften numbers bound rows row
from_at_least numbers bound rows row h =
    let m = Has-from_filter (λ (key : Row). nat_le bound (length (with_key numbers key rows))) row (project_rows numbers rows) (Has-from_set_of row (at_least_rows numbers bound rows) h) in
    let n = Has-from_map (cells numbers) row rows m.0 in
    record { source = n.0; stands = n.1; is = n.2; enough = m.1 }

pub in_at_least : (numbers : List ℕ) (bound : ℕ) (rows : List Row) (row : Row) → IsOften numbers bound rows row
    → Has row (set_of (at_least_rows numbers bound rows))
in_at_least numbers bound rows row o =
    let stands : Has row (project_rows numbers rows) = subst (λ (r : Row). Has r (project_rows numbers rows)) o.is (Has-map (cells numbers) o.source rows o.stands) in
    Has-set_of row (at_least_rows numbers bound rows) (Has-filter (λ (key : Row). nat_le bound (length (with_key numbers key rows))) row (project_rows numbers rows) stands o.enough)

-- ---- rows with a key

pub sorted_filter : (p : Row → Bool) (rows : List Row) → IsRowSet rows → IsRowSet (filter p rows)
sorted_filter p rows s = IsStrictlySortedBy-filter record_cmp p rows s

-- a sorted list that lies within another is no longer
pub length-within : (xs ys : List Row) → IsRowSet xs → IsWithin xs ys → length xs ≤ length ys
length-within xs ys sorted inside =
    let same : set_of (ys ++ xs) ≡ set_of ys = same_set_of (ys ++ xs) ys (λ q h. elim (Has-append_cases q ys xs h) [ inl a ↦ a | inr b ↦ inside q b ], λ q h. Has-append_left q ys xs h) in
    omega (arith, ap length (set_of-sorted xs sorted), length-set_of-append_right ys xs, ap length same, length-set_of-le ys)

-- sorted lists with the same rows of a key have the same list of these
pub same_with_key : (numbers : List ℕ) (key : Row) (xs ys : List Row) → IsRowSet xs → IsRowSet ys
    → HaveEqualMembers (with_key numbers key xs) (with_key numbers key ys) → with_key numbers key xs ≡ with_key numbers key ys
same_with_key numbers key xs ys s t same = same_row_sets (with_key numbers key xs) (with_key numbers key ys) (sorted_filter _ xs s) (sorted_filter _ ys t) same
