-- What is made of the values in a column: the first of them in order, the last, and the sum.
use Rattle.std.proofs.Common.{◌≡◌, ℕ, zero, suc, ◌+◌, ◌-◌, ◌<◌, ◌≤◌, Bool, true, false, Option, Some, None, unwrap_or, option_map, List, [], ◌∷◌, ◌++◌, length, get_or, drop, map, fold, reverse, refl, ap, ◌∙◌, sym, subst, inl, inr, ◌⊎◌, arith}
use Rattle.std.specs.Prelude.{pos, ◌+ℤ◌}
use Rattle.std.specs.List.{reduce}
use Rattle.std.specs.List.Sorted.{IsStrictlySortedBy}
use Rattle.std.specs.declared.cmp.Ordering.{Ordering}
use Rattle.std.specs.declared.cmp.Ordering.TheVariants.{Less, Equal, Greater}
use Rattle.std.specs.Ordering.{ordering_reverse, flip_args, is_lt, min_by_ordering, max_by_ordering}
use Rattle.std.specs.Cmp.{IsTotalOrder, back_total, tied_itself}
use Rattle.std.specs.FinMap.{IsAntisymmetric}
use Rattle.std.proofs.lemmas.List.{drop_more, get_or_default, get_or-reverse}
use Rattle.std.proofs.lemmas.Bool.{cases_eq}
use Rattle.std.proofs.lemmas.Map.Keys.{Less-from_sorted}
use Rattle.std.proofs.lemmas.List.Sorted.{ranks_by}
use Rattle.blz_value.specs.declared.value.Value.{Value}
use Rattle.blz_value.specs.declared.value.Value.TheVariants.{Int}
use Rattle.blz_value.specs.Value.{value_cmp}
use Rattle.blz_value.specs.ValueOrder.{value_cmp_total, value_cmp_exact}
use Rattle.blz_value.specs.Members.{Has, IsWithin, HaveEqualMembers}
use Rattle.blz_value.specs.Record.{Row}
use Rattle.blz_value.specs.Sets.{set_by}
use Rattle.blz_value.specs.Test.{cell}
use Rattle.blz_value.specs.Groups.{column_values, summand, exact_sum, first_value, values_in_order, least, greatest}
use Rattle.blz_value.proofs.Membership.{Has-get_or, Contains-from_Has}
use Rattle.blz_value.proofs.SetLemmas.{sorted_set_by, Has-set_by, Has-from_set_by}
use Rattle.blz_set.specs.declared.entry.Entry.{Entry}
use Rattle.blz_set.specs.declared.value_ref.ValueRef.{ValueRef}
use Rattle.blz_set.specs.declared.value_ref.ValueRef.TheVariants.{Number}
use Rattle.blz_set.specs.Code.ValueRef.{value_of}
use Rattle.blz_set.specs.Code.Entry.{row_of, rows_of}

-- ---- a sum, row by row

pub exact_sum_step : (column : ℕ) (refs : List Entry) (i : ℕ) (r : Entry) → i < length refs → r ≡ get_or refs i r → exact_sum (column_values column (rows_of (drop i refs))) ≡ summand (cell (row_of r) column) +ℤ exact_sum (column_values column (rows_of (drop (i + 1) refs)))
exact_sum_step column refs i r lt is = ap (λ l. exact_sum (column_values column (rows_of l))) (drop_more refs i r lt ∙ ap (λ (q : Entry). q ∷ drop (i + 1) refs) (sym is))

-- ---- the value that none is below, in an order

module _ {X : Type 0} (R : X → X → Ordering) where
  record IsFirst (x : X) (xs : List X) : Type 0 where
    member : Has x xs
    none_below : (q : X) → Has q xs → is_lt (R q x) ≡ false

  module _ (total : IsTotalOrder R) where
    not_below_itself : (x : X) → is_lt (R x x) ≡ false
    not_below_itself x = ap is_lt (tied_itself total x)

    level : (o r : Ordering) → o ≡ ordering_reverse r → is_lt o ≡ false → is_lt r ≡ false → o ≡ Equal
    level Less r e f g = cc
    level Equal r e f g = refl
    level Greater Less e f g = cc
    level Greater Equal e f g = cc
    level Greater Greater e f g = cc

    one_first : IsAntisymmetric R → (x y : X) (xs : List X) → IsFirst x xs → IsFirst y xs → x ≡ y
    one_first exact x y xs a b = exact x y (level (R x y) (R y x) (total.antisymm x y) (b.none_below x a.member) (a.none_below y b.member))

    -- a fold that picks of two values one that the other is not below
    module _ (pick : X → X → X) (picks : (x y : X) → ((pick x y ≡ x) × (is_lt (R y x) ≡ false)) ⊎ ((pick x y ≡ y) × (is_lt (R x y) ≡ false))) where
      fold_step : (x y z : X) (xs : List X) → IsFirst z (pick x y ∷ xs) → IsFirst z (x ∷ y ∷ xs)
      fold_step x y z xs h = record {
        member = elim h.member [
          | inl e ↦ elim (picks x y) [ inl p ↦ inl (sym p.0 ∙ e) | inr p ↦ inr (inl (sym p.0 ∙ e)) ]
          | inr m ↦ inr (inr m)
        ];
        none_below = λ q m. elim m [
          | inl e ↦ subst (λ (w : X). is_lt (R w z) ≡ false) e ((ranks_by total (λ (w : X). w)).chain x (pick x y) z (elim (picks x y) [ inl p ↦ subst (λ (w : X). is_lt (R x w) ≡ false) (sym p.0) (not_below_itself x) | inr p ↦ subst (λ (w : X). is_lt (R x w) ≡ false) (sym p.0) p.1 ]) (h.none_below (pick x y) (inl refl)))
          | inr n ↦ elim n [
            | inl e ↦ subst (λ (w : X). is_lt (R w z) ≡ false) e ((ranks_by total (λ (w : X). w)).chain y (pick x y) z (elim (picks x y) [ inl p ↦ subst (λ (w : X). is_lt (R y w) ≡ false) (sym p.0) p.1 | inr p ↦ subst (λ (w : X). is_lt (R y w) ≡ false) (sym p.0) (not_below_itself y) ]) (h.none_below (pick x y) (inl refl)))
            | inr o ↦ h.none_below q (inr o)
          ]
        ];
      }

      IsFirst-of_fold : (x : X) (xs : List X) → IsFirst (fold pick x xs) (x ∷ xs)
      IsFirst-of_fold x [] = record { member = inl refl; none_below = λ q h. elim h [ inl e ↦ subst (λ (w : X). is_lt (R w x) ≡ false) e (not_below_itself x) | inr m ↦ absurd m ] }
      IsFirst-of_fold x (y ∷ xs) = fold_step x y (fold pick (pick x y) xs) xs (IsFirst-of_fold (pick x y) xs)

IsFirst-of_members : {X : Type 0} (R : X → X → Ordering) (x : X) (xs ys : List X) → HaveEqualMembers xs ys → IsFirst R x xs → IsFirst R x ys
IsFirst-of_members R x xs ys same h = record { member = same.0 x h.member; none_below = λ q m. h.none_below q (same.1 q m) }

-- ---- the ends of the values in order

values_members : (values : List Value) → HaveEqualMembers (values_in_order values) values
values_members values = (λ q h. Has-from_set_by value_cmp q values h, λ q h. Has-set_by value_cmp value_cmp_exact q values h)

module _ (values : List Value) (some : 0 < length values) where
  in_order_some : 0 < length (values_in_order values)
  in_order_some = go values (values_in_order values) some (values_members values).1
    where
      go : (vs ws : List Value) → 0 < length vs → IsWithin vs ws → 0 < length ws
      go [] ws some within = absurd (omega arith)
      go (v ∷ vs) [] some within = absurd (within v (inl refl))
      go (v ∷ vs) (w ∷ ws) some within = omega arith

  sorted : IsStrictlySortedBy value_cmp (values_in_order values)
  sorted = sorted_set_by value_cmp value_cmp_total values

  -- each value in order stands at a place
  at_place : (q : Value) → Has q (values_in_order values) → (k : ℕ) × (k < length (values_in_order values)) × ((d : Value) → get_or (values_in_order values) k d ≡ q)
  at_place q h =
      let place = Contains-from_Has (values_in_order values) q h in
      (place.0, place.1, λ d. get_or_default (values_in_order values) place.0 d q place.1 ∙ place.2)

  least_is_first : IsFirst value_cmp (least values) values
  least_is_first = IsFirst-of_members value_cmp (least values) (values_in_order values) values (values_members values) (record {
    member = Has-get_or (values_in_order values) 0 (Int (pos 0)) in_order_some;
    none_below = λ q h. let place = at_place q h in subst (λ (w : Value). is_lt (value_cmp w (least values)) ≡ false) (place.2 (Int (pos 0))) (not_below place.0 place.1);
  })
    where
      not_below : (k : ℕ) → k < length (values_in_order values) → is_lt (value_cmp (get_or (values_in_order values) k (Int (pos 0))) (least values)) ≡ false
      not_below zero lt = not_below_itself value_cmp value_cmp_total (least values)
      not_below (suc k) lt = ap is_lt (value_cmp_total.antisymm (get_or (values_in_order values) (suc k) (Int (pos 0))) (least values) ∙ ap ordering_reverse (Less-from_sorted value_cmp (values_in_order values) 0 (suc k) (Int (pos 0)) sorted (omega arith) lt))

  last_place : greatest values ≡ get_or (values_in_order values) (length (values_in_order values) - 1) (Int (pos 0))
  last_place = get_or-reverse (values_in_order values) 0 (Int (pos 0)) in_order_some ∙ ap (λ n. get_or (values_in_order values) n (Int (pos 0))) (omega arith)

  greatest_is_first : IsFirst (flip_args value_cmp) (greatest values) values
  greatest_is_first = IsFirst-of_members (flip_args value_cmp) (greatest values) (values_in_order values) values (values_members values) (record {
    member = subst (λ (w : Value). Has w (values_in_order values)) (sym last_place) (Has-get_or (values_in_order values) (length (values_in_order values) - 1) (Int (pos 0)) (omega (arith, in_order_some)));
    none_below = λ q h.
        let place = at_place q h in
        subst (λ (w : Value). is_lt (value_cmp (greatest values) w) ≡ false) (place.2 (Int (pos 0)))
        (subst (λ (w : Value). is_lt (value_cmp w (get_or (values_in_order values) place.0 (Int (pos 0)))) ≡ false) (sym last_place) (not_above place.0 (length (values_in_order values) - 1) (omega (arith, place.1)) (omega (arith, in_order_some))));
  })
    where
      not_above : (k n : ℕ) → k ≤ n → n < length (values_in_order values) → is_lt (value_cmp (get_or (values_in_order values) n (Int (pos 0))) (get_or (values_in_order values) k (Int (pos 0)))) ≡ false
      not_above k n le lt = elim (cases_eq k n) [
        | inl e ↦ subst (λ (m : ℕ). is_lt (value_cmp (get_or (values_in_order values) m (Int (pos 0))) (get_or (values_in_order values) k (Int (pos 0)))) ≡ false) e (not_below_itself value_cmp value_cmp_total (get_or (values_in_order values) k (Int (pos 0))))
        | inr ne ↦ ap is_lt (value_cmp_total.antisymm (get_or (values_in_order values) n (Int (pos 0))) (get_or (values_in_order values) k (Int (pos 0))) ∙ ap ordering_reverse (Less-from_sorted value_cmp (values_in_order values) k n (Int (pos 0)) sorted (omega arith) lt))
      ]

-- ---- what a walk over the values picks

-- of two values the one that the other is not below, and the one that is not below the other
abbrev pub lesser : Value → Value → Value
lesser x y = min_by_ordering (value_cmp x y) x y

abbrev pub greater : Value → Value → Value
greater x y = max_by_ordering (value_cmp x y) x y

min_picks : (x y : Value) → ((lesser x y ≡ x) × (is_lt (value_cmp y x) ≡ false)) ⊎ ((lesser x y ≡ y) × (is_lt (value_cmp x y) ≡ false))
min_picks x y = go (value_cmp x y) (value_cmp y x) refl (value_cmp_total.antisymm y x)
  where
    go : (o r : Ordering) → value_cmp x y ≡ o → r ≡ ordering_reverse (value_cmp x y) → ((min_by_ordering o x y ≡ x) × (is_lt r ≡ false)) ⊎ ((min_by_ordering o x y ≡ y) × (is_lt o ≡ false))
    go Less r e f = inl (refl, ap is_lt (f ∙ ap ordering_reverse e))
    go Equal r e f = inl (refl, ap is_lt (f ∙ ap ordering_reverse e))
    go Greater r e f = inr (refl, refl)

max_picks : (x y : Value) → ((greater x y ≡ x) × (is_lt (value_cmp x y) ≡ false)) ⊎ ((greater x y ≡ y) × (is_lt (value_cmp y x) ≡ false))
max_picks x y = go (value_cmp x y) (value_cmp y x) refl (value_cmp_total.antisymm y x)
  where
    go : (o r : Ordering) → value_cmp x y ≡ o → r ≡ ordering_reverse (value_cmp x y) → ((max_by_ordering o x y ≡ x) × (is_lt o ≡ false)) ⊎ ((max_by_ordering o x y ≡ y) × (is_lt r ≡ false))
    go Less r e f = inr (refl, ap is_lt (f ∙ ap ordering_reverse e))
    go Equal r e f = inr (refl, ap is_lt (f ∙ ap ordering_reverse e))
    go Greater r e f = inl (refl, refl)

least_is : (values : List Value) → unwrap_or (reduce lesser values) (Int (pos 0)) ≡ least values
least_is [] = refl
least_is (v ∷ values) =
    one_first value_cmp value_cmp_total value_cmp_exact (fold lesser v values) (least (v ∷ values)) (v ∷ values) (IsFirst-of_fold value_cmp value_cmp_total lesser min_picks v values) (least_is_first (v ∷ values) (omega arith))

greatest_is : (values : List Value) → unwrap_or (reduce greater values) (Int (pos 0)) ≡ greatest values
greatest_is [] = refl
greatest_is (v ∷ values) =
    one_first (flip_args value_cmp) (back_total value_cmp_total) (λ x y e. sym (value_cmp_exact y x e)) (fold greater v values) (greatest (v ∷ values)) (v ∷ values)
    (IsFirst-of_fold (flip_args value_cmp) (back_total value_cmp_total) greater max_picks v values) (greatest_is_first (v ∷ values) (omega arith))

-- ---- the same of values that are lent

pub value_of-lesser : (p q : ValueRef) → value_of (min_by_ordering (value_cmp (value_of p) (value_of q)) p q) ≡ lesser (value_of p) (value_of q)
value_of-lesser p q = go (value_cmp (value_of p) (value_of q))
  where
    go : (o : Ordering) → value_of (min_by_ordering o p q) ≡ min_by_ordering o (value_of p) (value_of q)
    go Less = refl
    go Equal = refl
    go Greater = refl

pub value_of-greater : (p q : ValueRef) → value_of (max_by_ordering (value_cmp (value_of p) (value_of q)) p q) ≡ greater (value_of p) (value_of q)
value_of-greater p q = go (value_cmp (value_of p) (value_of q))
  where
    go : (o : Ordering) → value_of (max_by_ordering o p q) ≡ max_by_ordering o (value_of p) (value_of q)
    go Less = refl
    go Equal = refl
    go Greater = refl

value_of-unwrap_or : (picked : Option ValueRef) (other : ValueRef) → value_of (unwrap_or picked other) ≡ unwrap_or (option_map value_of picked) (value_of other)
value_of-unwrap_or None other = refl
value_of-unwrap_or (Some r) other = refl

values_lent : (column : ℕ) (entries : List Entry) → map (λ (entry : Entry). cell (row_of entry) column) entries ≡ column_values column (rows_of entries)
values_lent column [] = refl
values_lent column (entry ∷ entries) = ap (λ (l : List Value). cell (row_of entry) column ∷ l) (values_lent column entries)

module _ (column : ℕ) (entries : List Entry) (picked : Option ValueRef) where
  pub least_picked : option_map value_of picked ≡ reduce lesser (map (λ (entry : Entry). cell (row_of entry) column) entries) → value_of (unwrap_or picked (Number (pos 0))) ≡ least (column_values column (rows_of entries))
  least_picked e =
      value_of-unwrap_or picked (Number (pos 0)) ∙ ap (λ (o : Option Value). unwrap_or o (Int (pos 0))) (e ∙ ap (reduce lesser) (values_lent column entries)) ∙ least_is (column_values column (rows_of entries))

  pub greatest_picked : option_map value_of picked ≡ reduce greater (map (λ (entry : Entry). cell (row_of entry) column) entries) → value_of (unwrap_or picked (Number (pos 0))) ≡ greatest (column_values column (rows_of entries))
  greatest_picked e =
      value_of-unwrap_or picked (Number (pos 0)) ∙ ap (λ (o : Option Value). unwrap_or o (Int (pos 0))) (e ∙ ap (reduce greater) (values_lent column entries)) ∙ greatest_is (column_values column (rows_of entries))
