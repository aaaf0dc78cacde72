-- Records behind references that are sorted, and of which none stands twice, are the set of them.
use Rattle.std.proofs.Common.{◌≡◌, ◌+◌, ◌≤◌, ◌<◌, suc, Bool, cond, List, [], ◌∷◌, length, Bor, refl, ap, ◌∙◌, sym, subst, inl, inr, arith}
use Rattle.std.specs.List.{dedup, dedup_from}
use Rattle.std.specs.List.Sorted.{IsPermutation, IsSorted}
use Rattle.std.specs.Ordering.{eq_by_cmp}
use Rattle.std.proofs.lemmas.Bool.{cases_Bool}
use Rattle.std.proofs.lemmas.List.{length-map, get_or-map}
use Rattle.std.proofs.lemmas.List.Sorted.{IsPermutation-map, length_permutation}
use Rattle.blz_set.specs.References.{shown}
use Rattle.blz_value.specs.Record.{Row, record_cmp}
use Rattle.blz_value.specs.Sets.{set_of}
use Rattle.blz_value.proofs.RowSets.{set_of-dedup}

-- ---- nothing is left out of a list that stays as long as it was

module _ {A : Type 0} (same : A → A → Bool) where
  length-dedup_from : (k : A) (xs : List A) → length (dedup_from same k xs) ≤ length xs + 1
  length-dedup_from k [] = omega arith
  length-dedup_from k (x ∷ xs) = elim (cases_Bool (same x k)) [
    | inl again ↦ rw again (omega (arith, length-dedup_from k xs))
    | inr new ↦ rw new (omega (arith, length-dedup_from x xs))
  ]

  whole-dedup_from : (k : A) (xs : List A) → length (dedup_from same k xs) ≡ length xs + 1 → dedup_from same k xs ≡ k ∷ xs
  whole-dedup_from k [] whole = refl
  whole-dedup_from k (x ∷ xs) whole = elim (cases_Bool (same x k)) [
    | inl again ↦
        let long : length (dedup_from same k xs) ≡ suc (length xs) + 1 = subst (λ b. length (cond b (dedup_from same k xs) (k ∷ dedup_from same x xs)) ≡ suc (length xs) + 1) again whole in
        absurd (omega (arith, long, length-dedup_from k xs))
    | inr new ↦
        let long : suc (length (dedup_from same x xs)) ≡ suc (length xs) + 1 = subst (λ b. length (cond b (dedup_from same k xs) (k ∷ dedup_from same x xs)) ≡ suc (length xs) + 1) new whole in
        rw new (ap (λ l. k ∷ l) (whole-dedup_from x xs (omega (arith, long))))
  ]

  whole-dedup : (xs : List A) → length (dedup same xs) ≡ length xs → dedup same xs ≡ xs
  whole-dedup [] whole = refl
  whole-dedup (x ∷ xs) whole = whole-dedup_from x xs (omega (arith, whole))

-- ---- rows and references

set_of-sorted_once : (rows sorted : List Row) → IsPermutation rows sorted → IsSorted record_cmp sorted → length (set_of rows) ≡ length rows → sorted ≡ set_of rows
set_of-sorted_once rows sorted moved up once =
    let kept : dedup (eq_by_cmp record_cmp) sorted ≡ set_of rows = set_of-dedup rows sorted (dedup (eq_by_cmp record_cmp) sorted) moved up refl in
    sym (whole-dedup (eq_by_cmp record_cmp) sorted (ap (λ (l : List Row). length l) kept ∙ once ∙ sym (length_permutation rows sorted moved))) ∙ kept

sorted_shown : (refs : List (Bor Row)) → IsSorted (λ x y. record_cmp x.now y.now) refs → IsSorted record_cmp (shown refs)
sorted_shown [] up k d from within = absurd (omega (arith, within))
sorted_shown (r ∷ refs) up k d from within =
    let inside : k + 1 < length (r ∷ refs) = omega (arith, within, length-map (r ∷ refs) (λ (z : Bor Row). z.now)) in
    rw (get_or-map (λ (z : Bor Row). z.now) (r ∷ refs) (k + 1) r d inside) (
    rw (get_or-map (λ (z : Bor Row). z.now) (r ∷ refs) k r d (omega (arith, inside))) (up k r from inside)
    )

pub set_of-shown : (refs sorted : List (Bor Row)) → IsPermutation refs sorted → IsSorted (λ x y. record_cmp x.now y.now) sorted → length (set_of (shown refs)) ≡ length (shown refs) → shown sorted ≡ set_of (shown refs)
set_of-shown refs sorted moved up once = set_of-sorted_once (shown refs) (shown sorted) (IsPermutation-map (λ (z : Bor Row). z.now) refs sorted moved) (sorted_shown sorted up) once
