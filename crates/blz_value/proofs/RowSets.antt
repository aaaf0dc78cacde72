-- The set of a list of records: of lists that are made of others, and its length.
use Rattle.std.proofs.Common.{◌≡◌, suc, ◌+◌, ◌≤◌, List, [], ◌∷◌, ◌++◌, length, get_or, refl, ap, ◌∙◌, sym, subst, inl, inr, arith}
use Rattle.std.specs.declared.cmp.Ordering.{Ordering}
use Rattle.std.specs.FinMap.{IsAntisymmetric}
use Rattle.std.specs.List.{All, dedup}
use Rattle.std.specs.List.Sorted.{IsStrictlySortedBy, IsPermutation, IsSorted}
use Rattle.std.specs.BTreeSet.{insert_key}
use Rattle.std.specs.declared.cmp.Ordering.TheVariants.{Less, Greater}
use Rattle.std.specs.Ordering.{eq_by_cmp, match_ordering, ordering_reverse}
use Rattle.std.specs.Cmp.{eq_by_cmp_equiv, Equal-is}
use Rattle.std.proofs.lemmas.List.Sorted.{Contains-permutation, IsPermutation-sym}
use Rattle.std.proofs.lemmas.List.Kept.{IsStrictlySortedBy-dedup, Contains-dedup, Contains-from_dedup}
use Rattle.blz_value.specs.Members.{Has, IsWithin, HaveEqualMembers}
use Rattle.blz_value.specs.Record.{Row, record_cmp}
use Rattle.blz_value.specs.RecordOrder.{record_cmp_total, record_cmp_exact}
use Rattle.blz_value.specs.Sets.{set_of, IsRowSet}
use Rattle.blz_value.proofs.Membership.{Has-append_left, Has-append_right, Has-append_cases, append_within, push_front, Has-from_Contains, Contains-from_Has, Has-get_or, All-of_member}
use Rattle.blz_value.proofs.SetLemmas.{at_order, below_not_in}
use Rattle.blz_value.proofs.SetLaws.{sorted_set_of, Has-set_of, Has-from_set_of, members_set_of, same_row_sets}

-- ---- equal sets

-- lists with equal members make one set
pub same_set_of : (xs ys : List Row) → HaveEqualMembers xs ys → set_of xs ≡ set_of ys
same_set_of xs ys same =
    same_row_sets (set_of xs) (set_of ys) (sorted_set_of xs) (sorted_set_of ys)
    (λ q h. Has-set_of q ys (same.0 q (Has-from_set_of q xs h)), λ q h. Has-set_of q xs (same.1 q (Has-from_set_of q ys h)))

-- a sorted list is the set of a list with equal members
pub is_set_of : (xs ys : List Row) → IsRowSet xs → HaveEqualMembers xs ys → xs ≡ set_of ys
is_set_of xs ys sorted same = same_row_sets xs (set_of ys) sorted (sorted_set_of ys) (λ q h. Has-set_of q ys (same.0 q h), λ q h. same.1 q (Has-from_set_of q ys h))

-- a set is its own set
pub set_of-sorted : (rows : List Row) → IsRowSet rows → set_of rows ≡ rows
set_of-sorted rows sorted = same_row_sets (set_of rows) rows (sorted_set_of rows) sorted (members_set_of rows)

-- a set with one record more that it has
pub set_of-present : (row : Row) (rows : List Row) → IsRowSet rows → Has row rows → set_of (row ∷ rows) ≡ rows
set_of-present row rows sorted h =
    same_set_of (row ∷ rows) rows (λ q m. elim m [ inl e ↦ subst (λ z. Has z rows) e h | inr old ↦ old ], λ q m. inr m) ∙ set_of-sorted rows sorted

-- one record more at the end
pub set_of-push : (row : Row) (rows : List Row) → set_of (rows ++ row ∷ []) ≡ set_of (row ∷ rows)
set_of-push row rows = same_set_of (rows ++ row ∷ []) (row ∷ rows) (push_front row rows)

-- one record more that the list has
pub set_of-push_present : (row : Row) (rows : List Row) → Has row rows → set_of (rows ++ row ∷ []) ≡ set_of rows
set_of-push_present row rows h =
    same_set_of (rows ++ row ∷ []) rows
    (λ q m. elim (Has-append_cases q rows (row ∷ []) m) [ inl a ↦ a | inr b ↦ elim b [ inl e ↦ subst (λ z. Has z rows) e h | inr n ↦ absurd n ] ], λ q m. Has-append_left q rows (row ∷ []) m)

insert_key-above : (row : Row) (rows : List Row) → ((q : Row) → Has q rows → record_cmp q row ≡ Less) → insert_key record_cmp rows row ≡ rows ++ row ∷ []
insert_key-above row [] above = refl
insert_key-above row (x ∷ rows) above =
    let greater : record_cmp row x ≡ Greater = record_cmp_total.antisymm row x ∙ ap ordering_reverse (above x (inl refl)) in
    ap (λ o. match_ordering o (row ∷ x ∷ rows) (x ∷ rows) (x ∷ insert_key record_cmp rows row)) greater ∙ ap (λ l. x ∷ l) (insert_key-above row rows (λ q h. above q (inr h)))

-- one record more that is above all
pub set_of-push_above : (row : Row) (rows : List Row) → ((q : Row) → Has q rows → record_cmp q row ≡ Less) → set_of (rows ++ row ∷ []) ≡ set_of rows ++ row ∷ []
set_of-push_above row rows above = set_of-push row rows ∙ insert_key-above row (set_of rows) (λ q h. above q (Has-from_set_of q rows h))

-- a set in the front list's place
pub set_of-append_set : (xs ys : List Row) → set_of (set_of xs ++ ys) ≡ set_of (xs ++ ys)
set_of-append_set xs ys =
    let same = members_set_of xs in
    same_set_of (set_of xs ++ ys) (xs ++ ys) (append_within (set_of xs) ys xs ys same.0 (λ q h. h), append_within xs ys (set_of xs) ys same.1 (λ q h. h))

-- a sort that leaves each record once
pub set_of-dedup : (rows sorted kept : List Row) → IsPermutation rows sorted → IsSorted record_cmp sorted → kept ≡ dedup (eq_by_cmp record_cmp) sorted → kept ≡ set_of rows
set_of-dedup rows sorted kept moved up is =
    same_row_sets kept (set_of rows)
    (rw is (IsStrictlySortedBy-dedup record_cmp_total (λ x y. refl) sorted up))
    (sorted_set_of rows) (
      λ q h. Has-set_of q rows (Has-from_Contains rows q (Contains-permutation sorted rows q (IsPermutation-sym rows sorted moved) (Contains-from_dedup (eq_by_cmp record_cmp) sorted q (Contains-from_Has _ q (subst (λ z. Has q z) is h))))),
      λ q h. subst (λ z. Has q z) (sym is) (Has-from_Contains _ q (Contains-dedup (eq_by_cmp_equiv record_cmp_total) (λ x y e. record_cmp_exact x y ((Equal-is (record_cmp x y)).0 e)) sorted q (Contains-permutation rows sorted q moved (Contains-from_Has rows q (Has-from_set_of q rows h))))),
    )

-- what holds of all records holds of the set's
pub All-set_of : (P : Row → Type 0) (rows : List Row) → All P rows → All P (set_of rows)
All-set_of P rows all k d lt = All-of_member P rows (get_or (set_of rows) k d) all (Has-from_set_of (get_or (set_of rows) k d) rows (Has-get_or (set_of rows) k d lt))

-- ---- lengths

module _ {X : Type 0} (R : X → X → Ordering) where
  pub length-insert_key-ge : (k : X) (xs : List X) → length xs ≤ length (insert_key R xs k)
  length-insert_key-ge k [] = omega arith
  length-insert_key-ge k (x ∷ xs) =
      at_order R (λ l. suc (length xs) ≤ length l) (R k x) (k ∷ x ∷ xs) (x ∷ xs) (x ∷ insert_key R xs k) (λ _. omega arith) (λ _. omega arith) (λ _. omega (arith, length-insert_key-ge k xs))

  pub length-insert_key-le : (k : X) (xs : List X) → length (insert_key R xs k) ≤ length xs + 1
  length-insert_key-le k [] = omega arith
  length-insert_key-le k (x ∷ xs) =
      at_order R (λ l. length l ≤ suc (length xs) + 1) (R k x) (k ∷ x ∷ xs) (x ∷ xs) (x ∷ insert_key R xs k) (λ _. omega arith) (λ _. omega arith) (λ _. omega (arith, length-insert_key-le k xs))

  -- a new element makes the set one longer
  pub length-insert_key-new : IsAntisymmetric R → (k : X) (xs : List X) → ¬ Has k xs → length (insert_key R xs k) ≡ length xs + 1
  length-insert_key-new exact k [] lacks = omega arith
  length-insert_key-new exact k (x ∷ xs) lacks =
      at_order R (λ l. length l ≡ suc (length xs) + 1) (R k x) (k ∷ x ∷ xs) (x ∷ xs) (x ∷ insert_key R xs k)
      (λ _. omega arith) (λ e. absurd (lacks (inl (sym (exact k x e))))) (λ _. omega (arith, length-insert_key-new exact k xs (λ h. lacks (inr h))))

pub length-set_of-le : (rows : List Row) → length (set_of rows) ≤ length rows
length-set_of-le [] = omega arith
length-set_of-le (row ∷ rows) = omega (arith, length-insert_key-le record_cmp row (set_of rows), length-set_of-le rows)

-- more records make no smaller set

pub length-set_of-append_right : (xs ys : List Row) → length (set_of ys) ≤ length (set_of (xs ++ ys))
length-set_of-append_right [] ys = omega arith
length-set_of-append_right (x ∷ xs) ys = omega (arith, length-set_of-append_right xs ys, length-insert_key-ge record_cmp x (set_of (xs ++ ys)))

set_of-append_comm : (xs ys : List Row) → set_of (xs ++ ys) ≡ set_of (ys ++ xs)
set_of-append_comm xs ys =
    let turned : (us vs : List Row) → IsWithin (us ++ vs) (vs ++ us) = λ us vs q h. elim (Has-append_cases q us vs h) [ inl a ↦ Has-append_right q vs us a | inr b ↦ Has-append_left q vs us b ] in
    same_set_of (xs ++ ys) (ys ++ xs) (turned xs ys, turned ys xs)

pub length-set_of-append_left : (xs ys : List Row) → length (set_of xs) ≤ length (set_of (xs ++ ys))
length-set_of-append_left xs ys = rw (set_of-append_comm xs ys) (length-set_of-append_right ys xs)

-- two sets with no record in common
pub length-set_of-disjoint : (xs ys : List Row) → IsRowSet xs → IsRowSet ys → ((q : Row) → Has q xs → ¬ Has q ys) → length (set_of (xs ++ ys)) ≡ length xs + length ys
unfolding IsStrictlySortedBy
length-set_of-disjoint [] ys s t apart = rw (set_of-sorted ys t) (omega arith)
length-set_of-disjoint (x ∷ xs) ys s t apart =
    let new : ¬ Has x (set_of (xs ++ ys)) = λ h. elim (Has-append_cases x xs ys (Has-from_set_of x (xs ++ ys) h)) [ inl a ↦ below_not_in record_cmp record_cmp_total x xs s.0 a | inr b ↦ apart x (inl refl) b ] in
    omega (arith, length-insert_key-new record_cmp record_cmp_exact x (set_of (xs ++ ys)) new, length-set_of-disjoint xs ys s.1 t (λ q h. apart q (inr h)))
