-- Where a row is in a set, or would go.
use Rattle.std.proofs.Common.{◌≡◌, ℕ, zero, suc, ◌+◌, ◌-◌, ◌<◌, ◌≤◌, true, false, List, [], ◌∷◌, length, get_or, slice_get, Some, is_ok, Result, Ok, Err, IfOk, IfErr, refl, ap, ◌∙◌, sym, subst, inl, inr, arith}
use Rattle.std.specs.declared.cmp.Ordering.{Ordering}
use Rattle.std.specs.declared.cmp.Ordering.TheVariants.{Less, Equal, Greater}
use Rattle.std.specs.Ordering.{match_ordering, ordering_reverse, ordering_index, is_lt}
use Rattle.std.specs.Cmp.{tied_itself}
use Rattle.std.specs.List.{AllByRecursion, AllWithin, HoldsAt, insert}
use Rattle.std.specs.List.Sorted.{IsStrictlySortedBy, IsNonDecreasingBy, IsSearchInRange, IsBinarySearchResult}
use Rattle.std.specs.BTreeSet.{insert_key}
use Rattle.std.proofs.lemmas.List.Sorted.{searchable_from_sorted}
use Rattle.std.proofs.lemmas.Map.Keys.{Less-from_sorted}
use Rattle.blz_value.specs.Members.{Has}
use Rattle.blz_value.specs.Record.{Row, record_cmp}
use Rattle.blz_value.specs.RecordOrder.{record_cmp_total, record_cmp_exact}
use Rattle.blz_value.specs.Sets.{set_of, IsRowSet}
use Rattle.blz_value.proofs.Membership.{Has-from_Contains}
use Rattle.blz_value.proofs.SetLemmas.{turned}
use Rattle.blz_value.proofs.RowSets.{set_of-sorted}
use Rattle.blz_set.specs.Missing.{has_row}
use Rattle.blz_set.proofs.RecordSets.{has_row-from_Has, has_row-from_lacks}

module _ (x : Row) where
  -- ---- between the lesser and the greater rows

  pub gap : (rows : List Row) (i : ℕ) → i ≤ length rows → AllWithin (λ y. record_cmp y x ≡ Less) rows 0 i → AllWithin (λ y. record_cmp y x ≡ Greater) rows i (length rows) → insert rows i x ≡ insert_key record_cmp rows x
  gap [] zero le below above = refl
  gap [] (suc i) le below above = absurd (omega arith)
  gap (y ∷ rows) zero le below above =
      let e = turned record_cmp record_cmp_total y x (above 0 x (omega arith) (omega arith)) in
      sym (ap (λ o. match_ordering o (x ∷ y ∷ rows) (y ∷ rows) (y ∷ insert_key record_cmp rows x)) e)
  gap (y ∷ rows) (suc i) le below above =
      let e : record_cmp x y ≡ Greater = record_cmp_total.antisymm x y ∙ ap ordering_reverse (below 0 x (omega arith) (omega arith)) in
      let more = gap rows i (omega arith) (λ k d a b. below (suc k) d (omega arith) (omega arith)) (λ k d a b. above (suc k) d (omega arith) (omega arith)) in
      ap (λ l. y ∷ l) more ∙ sym (ap (λ o. match_ordering o (x ∷ y ∷ rows) (y ∷ rows) (y ∷ insert_key record_cmp rows x)) e)

  pub gap_lacks : (rows : List Row) (i : ℕ) → AllWithin (λ y. record_cmp y x ≡ Less) rows 0 i → AllWithin (λ y. record_cmp y x ≡ Greater) rows i (length rows) → ¬ Has x rows
  gap_lacks [] i below above h = h
  gap_lacks (y ∷ rows) zero below above (inl e) = let a = above 0 x (omega arith) (omega arith) in let b = subst (λ z. record_cmp z x ≡ Greater) e a in let t = tied_itself record_cmp_total x in cc
  gap_lacks (y ∷ rows) (suc i) below above (inl e) = let a = below 0 x (omega arith) (omega arith) in let b = subst (λ z. record_cmp z x ≡ Less) e a in let t = tied_itself record_cmp_total x in cc
  gap_lacks (y ∷ rows) zero below above (inr h) = gap_lacks rows zero (λ k d a b. absurd (omega arith)) (λ k d a b. above (suc k) d (omega arith) (omega arith)) h
  gap_lacks (y ∷ rows) (suc i) below above (inr h) = gap_lacks rows i (λ k d a b. below (suc k) d (omega arith) (omega arith)) (λ k d a b. above (suc k) d (omega arith) (omega arith)) h

  -- a set with one row more in the gap
  pub gap_set : (rows : List Row) (i : ℕ) → IsRowSet rows → i ≤ length rows → AllWithin (λ y. record_cmp y x ≡ Less) rows 0 i → AllWithin (λ y. record_cmp y x ≡ Greater) rows i (length rows) → insert rows i x ≡ set_of (x ∷ rows)
  gap_set rows i sorted le below above = gap rows i le below above ∙ ap (λ set. insert_key record_cmp set x) (sym (set_of-sorted rows sorted))

  -- ---- a binary search

  less_back : (a b : Row) → record_cmp a b ≡ Less → is_lt (record_cmp b a) ≡ false
  less_back a b e = ap is_lt (record_cmp_total.antisymm b a ∙ ap ordering_reverse e)

  searchable : (rows : List Row) → IsRowSet rows → IsNonDecreasingBy (λ y. ordering_index (record_cmp y x)) rows
  searchable rows s = searchable_from_sorted record_cmp_total (λ y. y) rows x (λ k d low high. less_back (get_or rows k d) (get_or rows (k + 1) d) (Less-from_sorted record_cmp rows k (k + 1) d s (omega arith) high))

  found : (rows : List Row) (i : ℕ) → i < length rows → ((d : Row) → record_cmp (get_or rows i d) x ≡ Equal) → Has x rows
  found rows i lt e = Has-from_Contains rows x (i, lt, record_cmp_exact _ _ (e x))

  module _ (rows : List Row) (sorted : IsRowSet rows) where
    pub search_tests : (r : Result ℕ ℕ) → IsSearchInRange r (length rows) → IfOk r (HoldsAt (λ y. record_cmp y x ≡ Equal) rows) → IsBinarySearchResult (λ y. record_cmp y x) rows r → is_ok r ≡ has_row rows x
    search_tests (Ok i) within here h = sym (has_row-from_Has rows x (found rows i within here))
    search_tests (Err i) within here h = let p = h (searchable rows sorted) in sym (has_row-from_lacks rows x (gap_lacks rows i p.0 p.1))

    pub search_gap : (r : Result ℕ ℕ) → IsSearchInRange r (length rows) → IsBinarySearchResult (λ y. record_cmp y x) rows r → IfErr r (λ at. insert rows at x ≡ set_of (x ∷ rows))
    search_gap (Ok i) within h = tt
    search_gap (Err i) within h = let p = h (searchable rows sorted) in gap_set rows i sorted within p.0 p.1

-- ---- a row above the last

all_at : {X : Type 0} (P : X → Type 0) (xs : List X) → AllByRecursion P xs → AllWithin P xs 0 (length xs)
all_at P [] a k d low high = absurd (omega arith)
all_at P (x ∷ xs) a zero d low high = a.0
all_at P (x ∷ xs) a (suc k) d low high = all_at P xs a.1 k d (omega arith) (omega arith)

module _ (x last : Row) (less : record_cmp last x ≡ Less) where
  below_last : (rows : List Row) (n : ℕ) → Some last ≡ slice_get rows n → length rows ≡ suc n → IsRowSet rows → AllByRecursion (λ y. record_cmp y x ≡ Less) rows
  unfolding IsStrictlySortedBy
  below_last [] n e is s = absurd (omega arith)
  below_last (y ∷ []) zero e is s = (let same : last ≡ y = cc in subst (λ z. record_cmp z x ≡ Less) same less, tt)
  below_last (y ∷ []) (suc n) e is s = absurd (omega arith)
  below_last (y ∷ z ∷ rows) zero e is s = absurd (omega arith)
  below_last (y ∷ z ∷ rows) (suc n) e is s =
      let more = below_last (z ∷ rows) n e (omega arith) s.1 in
      (record_cmp_total.trans y z x s.0.0 more.0, more)

  below : (rows : List Row) (n : ℕ) → Some last ≡ slice_get rows n → n ≡ length rows - 1 → IsRowSet rows → AllWithin (λ y. record_cmp y x ≡ Less) rows 0 (length rows)
  below [] n e is s = λ k d low high. absurd (omega arith)
  below (y ∷ rows) n e is s = all_at (λ z. record_cmp z x ≡ Less) (y ∷ rows) (below_last (y ∷ rows) n e (omega arith) s)

  pub end_tests : (rows : List Row) (n : ℕ) → Some last ≡ slice_get rows n → n ≡ length rows - 1 → IsRowSet rows → false ≡ has_row rows x
  end_tests rows n e is s = sym (has_row-from_lacks rows x (gap_lacks x rows (length rows) (below rows n e is s) (λ k d low high. absurd (omega arith))))

  pub end_gap : (rows : List Row) (n : ℕ) → Some last ≡ slice_get rows n → n ≡ length rows - 1 → IsRowSet rows → insert rows (length rows) x ≡ set_of (x ∷ rows)
  end_gap rows n e is s = gap_set x rows (length rows) s (omega arith) (below rows n e is s) (λ k d low high. absurd (omega arith))

pub less_is : (o : Ordering) → is_lt o ≡ true → o ≡ Less
less_is Less e = refl
less_is Equal e = cc
less_is Greater e = cc
