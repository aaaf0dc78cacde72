-- Rows that are put to others, and the set of one row.
use Rattle.std.proofs.Common.{◌≡◌, ◌<◌, ◌≤◌, ◌++◌, ◌∙◌, ◌∷◌, [], List, length, Ok, Err, ap, sym, subst, arith}
use Rattle.blz_set.specs.Answers.{Becomes}
use Rattle.blz_set.specs.RecordSet.{IsRecordSet, row_limit}
use Rattle.blz_set.specs.declared.fault.SetFault.{SetFault}
use Rattle.blz_set.specs.declared.fault.SetFault.TheVariants.{TooManyRows, NoMemory}
use Rattle.blz_value.specs.Record.{Row}
use Rattle.blz_value.specs.Sets.{set_of}
use Rattle.blz_value.proofs.RowSets.{set_of-push, set_of-sorted}
use Rattle.blz_value.proofs.SetLaws.{sorted_set_of}

pub put_where_none : (set rows made : List Row) → length set ≡ 0 → IsRecordSet rows → made ≡ rows → (made ≡ set_of (set ++ rows)) × (length (set_of (set ++ rows)) ≤ row_limit)
put_where_none [] rows made none is e = (e ∙ sym (set_of-sorted rows is.sorted), subst (λ (l : List Row). length l ≤ row_limit) (sym (set_of-sorted rows is.sorted)) is.small)
put_where_none (x ∷ xs) rows made none is e = absurd (omega (arith, none))

-- one row is a set
pub one_is_set : (row : Row) → IsRecordSet (row ∷ [])
one_is_set row = record { sorted = sorted_set_of (row ∷ []); small = omega arith }

-- a row behind others
pub put_one : (X Y : Type 0) (set made : List Row) (row copy : Row) → copy ≡ row → (x : X) (y : Y) → Becomes {X = X} set (set_of (copy ∷ set)) made (Ok x) → Becomes {X = Y} set (set_of (set ++ row ∷ [])) made (Ok y)
put_one X Y set made row copy same x y h =
    let e : set_of (copy ∷ set) ≡ set_of (set ++ row ∷ []) = ap (λ (r : Row). set_of (r ∷ set)) same ∙ sym (set_of-push row set) in
    (h.0 ∙ e, subst (λ (l : List Row). length l ≤ row_limit) e h.1)

pub put_one_fault : (X Y : Type 0) (set made : List Row) (row copy : Row) → copy ≡ row → (fault : SetFault) → Becomes {X = X} set (set_of (copy ∷ set)) made (Err fault) → Becomes {X = Y} set (set_of (set ++ row ∷ [])) made (Err fault)
put_one_fault X Y set made row copy same TooManyRows h =
    let e : set_of (copy ∷ set) ≡ set_of (set ++ row ∷ []) = ap (λ (r : Row). set_of (r ∷ set)) same ∙ sym (set_of-push row set) in
    (h.0, subst (λ (l : List Row). row_limit < length l) e h.1)
put_one_fault X Y set made row copy same NoMemory h = h
