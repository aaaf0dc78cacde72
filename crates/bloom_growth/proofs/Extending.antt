-- Sets that grow, and what is new of a join of such.
use Rattle.std.proofs.Common.{◌≡◌, ◌≤◌, List, ◌++◌, length, filter, sym, subst, inl, inr, ◌⊎◌}
use Rattle.blz_value.specs.Members.{Has}
use Rattle.blz_value.specs.Operators.{Pairs, agree, joined, join_rows}
use Rattle.blz_value.specs.Record.{Row}
use Rattle.blz_value.specs.Sets.{set_of, IsRowSet}
use Rattle.blz_value.proofs.Membership.{Has-append_left, Has-append_right, Has-append_cases, Has-flat_map, Has-from_flat_map, Has-map, Has-from_map, Has-filter, Has-from_filter}
use Rattle.blz_value.proofs.OperatorsLemmas.{IsJoined, from_join, in_join, length-within}
use Rattle.blz_value.proofs.SetLaws.{sorted_set_of, Has-set_of, Has-from_set_of, same_row_sets}
use Rattle.bloom_growth.specs.Growth.{Extends}
use Rattle.bloom_growth.specs.Code.Joins.{turned, turned_rows}

module _ (old new fresh : List Row) (e : Extends old new fresh) where
  pub sorted_new : IsRowSet new
  sorted_new = subst IsRowSet (sym e.all) (sorted_set_of (old ++ fresh))

  pub old_is_in : (q : Row) → Has q old → Has q new
  old_is_in q h = subst (λ (l : List Row). Has q l) (sym e.all) (Has-set_of q (old ++ fresh) (Has-append_left q old fresh h))

  pub fresh_is_in : (q : Row) → Has q fresh → Has q new
  fresh_is_in q h = subst (λ (l : List Row). Has q l) (sym e.all) (Has-set_of q (old ++ fresh) (Has-append_right q old fresh h))

  pub old_or_fresh : (q : Row) → Has q new → Has q old ⊎ Has q fresh
  old_or_fresh q h = Has-append_cases q old fresh (Has-from_set_of q (old ++ fresh) (subst (λ (l : List Row). Has q l) e.all h))

-- ---- join

pub from_turned : (pairs : Pairs) (lefts rights : List Row) (q : Row) → Has q (turned_rows pairs lefts rights) → IsJoined pairs lefts rights q
from_turned pairs lefts rights q h =
    let m = Has-from_flat_map (turned pairs lefts) q rights h in
    let n = Has-from_map (λ (l : Row). joined pairs l m.0) q (filter (λ l. agree pairs l m.0) lefts) m.2 in
    let k = Has-from_filter (λ (l : Row). agree pairs l m.0) n.0 lefts n.1 in
    record { left = n.0; left_stands = k.0; right = m.0; right_stands = m.1; agrees = k.1; is = n.2 }

pub in_turned : (pairs : Pairs) (lefts rights : List Row) (q : Row) → IsJoined pairs lefts rights q → Has q (turned_rows pairs lefts rights)
in_turned pairs lefts rights q j =
    let made : Has q (turned pairs lefts j.right) = subst (λ (r : Row). Has r (turned pairs lefts j.right)) j.is (Has-map (λ (l : Row). joined pairs l j.right) j.left (filter (λ l. agree pairs l j.right) lefts) (Has-filter (λ (l : Row). agree pairs l j.right) j.left lefts j.left_stands j.agrees)) in
    Has-flat_map (turned pairs lefts) j.right q rights j.right_stands made

-- a join through its right rows is the join
pub turned_is : (pairs : Pairs) (lefts rights : List Row) → set_of (turned_rows pairs lefts rights) ≡ set_of (join_rows pairs lefts rights)
turned_is pairs lefts rights =
    same_row_sets (set_of (turned_rows pairs lefts rights)) (set_of (join_rows pairs lefts rights)) (sorted_set_of (turned_rows pairs lefts rights)) (sorted_set_of (join_rows pairs lefts rights)) (
      λ q h. in_join pairs lefts rights q (from_turned pairs lefts rights q (Has-from_set_of q (turned_rows pairs lefts rights) h)),
      λ q h. Has-set_of q (turned_rows pairs lefts rights) (in_turned pairs lefts rights q (from_join pairs lefts rights q h)),
    )

module _ (pairs : Pairs) (lo ln ld ro rn rd : List Row) (el : Extends lo ln ld) (er : Extends ro rn rd) where
  -- what is new of a join: new left rows with old right rows, and all left rows with new right rows
  candidates : List Row
  candidates = set_of (join_rows pairs ld ro) ++ turned_rows pairs ln rd

  to_new : (q : Row) → Has q candidates → Has q (set_of (join_rows pairs ln rn))
  unfolding candidates
  to_new q h = elim (Has-append_cases q (set_of (join_rows pairs ld ro)) (turned_rows pairs ln rd) h) [
    | inl a ↦ let j = from_join pairs ld ro q a in
        in_join pairs ln rn q (record { left = j.left; left_stands = fresh_is_in lo ln ld el j.left j.left_stands; right = j.right; right_stands = old_is_in ro rn rd er j.right j.right_stands; agrees = j.agrees; is = j.is })
    | inr b ↦ let j = from_turned pairs ln rd q b in
        in_join pairs ln rn q (record { left = j.left; left_stands = j.left_stands; right = j.right; right_stands = fresh_is_in ro rn rd er j.right j.right_stands; agrees = j.agrees; is = j.is })
  ]

  -- it is no more than all of it
  pub few_new : length (set_of (set_of (join_rows pairs ld ro) ++ turned_rows pairs ln rd)) ≤ length (set_of (join_rows pairs ln rn))
  unfolding candidates
  few_new = length-within (set_of candidates) (set_of (join_rows pairs ln rn)) (sorted_set_of candidates) (λ q h. to_new q (Has-from_set_of q candidates h))

  pub few_first : length (set_of (join_rows pairs ld ro)) ≤ length (set_of (join_rows pairs ln rn))
  unfolding candidates
  few_first = length-within (set_of (join_rows pairs ld ro)) (set_of (join_rows pairs ln rn)) (sorted_set_of (join_rows pairs ld ro)) (λ q h. to_new q (Has-append_left q (set_of (join_rows pairs ld ro)) (turned_rows pairs ln rd) h))
