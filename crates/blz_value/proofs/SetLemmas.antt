-- Sorted lists as sets, over any total and exact order: equal members make equal lists.
use Rattle.std.proofs.Common.{◌≡◌, List, [], ◌∷◌, refl, ap, ◌∙◌, sym, subst, inl, inr, ◌⊎◌}
use Rattle.std.specs.declared.cmp.Ordering.{Ordering}
use Rattle.std.specs.declared.cmp.Ordering.TheVariants.{Less, Equal, Greater}
use Rattle.std.specs.Ordering.{match_ordering, ordering_reverse}
use Rattle.std.specs.Cmp.{IsTotalOrder, tied_itself}
use Rattle.std.specs.List.{AllByRecursion}
use Rattle.std.specs.List.Sorted.{IsStrictlySortedBy}
use Rattle.std.specs.BTreeSet.{insert_key}
use Rattle.std.specs.FinMap.{IsAntisymmetric}
use Rattle.blz_value.specs.Members.{Has, IsWithin}
use Rattle.blz_value.specs.Sets.{set_by}

module _ {X : Type 0} (P : X → Type 0) where
  -- what holds of all elements holds of a member
  pub all_has : (q : X) (xs : List X) → AllByRecursion P xs → Has q xs → P q
  all_has q [] a h = absurd h
  all_has q (x ∷ xs) a (inl e) = subst P e a.0
  all_has q (x ∷ xs) a (inr h) = all_has q xs a.1 h

  -- what holds of each member holds of all elements
  pub all_from_has : (xs : List X) → ((q : X) → Has q xs → P q) → AllByRecursion P xs
  all_from_has [] f = tt
  all_from_has (x ∷ xs) f = (f x (inl refl), all_from_has xs (λ q h. f q (inr h)))

module _ {X : Type 0} (R : X → X → Ordering) where
  -- the three ways in which two elements may stand
  pub at_order : (P : List X → Type 0) (o : Ordering) (a b c : List X) → (o ≡ Less → P a) → (o ≡ Equal → P b) → (o ≡ Greater → P c) → P (match_ordering o a b c)
  at_order P Less a b c f g h = f refl
  at_order P Equal a b c f g h = g refl
  at_order P Greater a b c f g h = h refl

  -- a member of a set with one more element is that element or was a member
  pub insert_cases : (q k : X) (xs : List X) → Has q (insert_key R xs k) → (k ≡ q) ⊎ Has q xs
  insert_cases q k [] (inl e) = inl e
  insert_cases q k [] (inr h) = absurd h
  insert_cases q k (x ∷ xs) h =
      at_order (λ l. Has q l → (k ≡ q) ⊎ Has q (x ∷ xs)) (R k x) (k ∷ x ∷ xs) (x ∷ xs) (x ∷ insert_key R xs k) (λ _ m. m) (λ _ m. inr m)
      (λ _. elim [ inl e ↦ inr (inl e) | inr m ↦ elim (insert_cases q k xs m) [ inl e ↦ inl e | inr n ↦ inr (inr n) ] ]) h

  -- a member stays one
  pub insert_old : (q k : X) (xs : List X) → Has q xs → Has q (insert_key R xs k)
  insert_old q k [] h = absurd h
  insert_old q k (x ∷ xs) h =
      at_order (λ l. Has q l) (R k x) (k ∷ x ∷ xs) (x ∷ xs) (x ∷ insert_key R xs k) (λ _. inr h) (λ _. h)
      (λ _. elim h [ inl e ↦ inl e | inr m ↦ inr (insert_old q k xs m) ])

  -- each member of the set is one of the list
  pub Has-from_set_by : (q : X) (xs : List X) → Has q (set_by R xs) → Has q xs
  Has-from_set_by q [] h = absurd h
  Has-from_set_by q (x ∷ xs) h = elim (insert_cases q x (set_by R xs) h) [ inl e ↦ inl e | inr m ↦ inr (Has-from_set_by q xs m) ]

  module _ (exact : IsAntisymmetric R) where
    -- the new element is a member
    pub insert_new : (k : X) (xs : List X) → Has k (insert_key R xs k)
    insert_new k [] = inl refl
    insert_new k (x ∷ xs) = at_order (λ l. Has k l) (R k x) (k ∷ x ∷ xs) (x ∷ xs) (x ∷ insert_key R xs k) (λ _. inl refl) (λ e. inl (sym (exact k x e))) (λ _. inr (insert_new k xs))

    -- each member of the list is one of the set
    pub Has-set_by : (q : X) (xs : List X) → Has q xs → Has q (set_by R xs)
    Has-set_by q [] h = absurd h
    Has-set_by q (x ∷ xs) (inl e) = subst (λ z. Has z (set_by R (x ∷ xs))) e (insert_new x (set_by R xs))
    Has-set_by q (x ∷ xs) (inr h) = insert_old q x (set_by R xs) (Has-set_by q xs h)

  module _ (total : IsTotalOrder R) where
    pub turned : (x y : X) → R x y ≡ Greater → R y x ≡ Less
    turned x y e = total.antisymm y x ∙ ap ordering_reverse e

    -- a set with one more element is sorted
    pub sorted_insert : (k : X) (xs : List X) → IsStrictlySortedBy R xs → IsStrictlySortedBy R (insert_key R xs k)
    unfolding IsStrictlySortedBy
    sorted_insert k [] s = (tt, tt)
    sorted_insert k (x ∷ xs) s =
        at_order (λ l. IsStrictlySortedBy R l) (R k x) (k ∷ x ∷ xs) (x ∷ xs) (x ∷ insert_key R xs k)
        (λ e. ((e, all_from_has (λ y. R k y ≡ Less) xs (λ q h. total.trans k x q e (all_has (λ y. R x y ≡ Less) q xs s.0 h))), s))
        (λ _. s)
        (λ e. (
          all_from_has (λ y. R x y ≡ Less) (insert_key R xs k) (λ q h. elim (insert_cases q k xs h) [
            | inl same ↦ subst (λ y. R x y ≡ Less) same (turned k x e)
            | inr old ↦ all_has (λ y. R x y ≡ Less) q xs s.0 old
          ]),
          sorted_insert k xs s.1,
        ))

    -- a set is sorted
    pub sorted_set_by : (xs : List X) → IsStrictlySortedBy R (set_by R xs)
    unfolding IsStrictlySortedBy
    sorted_set_by [] = tt
    sorted_set_by (x ∷ xs) = sorted_insert x (set_by R xs) (sorted_set_by xs)

    -- what is below each element of a list is not in it
    pub below_not_in : (x : X) (xs : List X) → AllByRecursion (λ y. R x y ≡ Less) xs → Has x xs → ⊥
    below_not_in x xs a h = let e = all_has (λ y. R x y ≡ Less) x xs a h in let t = tied_itself total x in cc

    -- two sorted lists with the same members are one list
    pub same_sorted : (xs ys : List X) → IsStrictlySortedBy R xs → IsStrictlySortedBy R ys → IsWithin xs ys → IsWithin ys xs → xs ≡ ys
    unfolding IsStrictlySortedBy
    same_sorted [] [] s t f g = refl
    same_sorted [] (y ∷ ys) s t f g = absurd (g y (inl refl))
    same_sorted (x ∷ xs) [] s t f g = absurd (f x (inl refl))
    same_sorted (x ∷ xs) (y ∷ ys) s t f g =
        let head : x ≡ y = elim (f x (inl refl)) [
          | inl e ↦ sym e
          | inr below ↦ elim (g y (inl refl)) [
            | inl e ↦ e
            | inr above ↦
                let a = all_has (λ z. R y z ≡ Less) x ys t.0 below in
                let b = all_has (λ z. R x z ≡ Less) y xs s.0 above in
                let c = total.trans x y x b a in
                let d = tied_itself total x in
                cc
          ]
        ] in
        let right : IsWithin xs ys = λ q h. elim (f q (inr h)) [
          | inl e ↦ absurd (below_not_in x xs s.0 (subst (λ z. Has z xs) (sym e ∙ sym head) h))
          | inr m ↦ m
        ] in
        let left : IsWithin ys xs = λ q h. elim (g q (inr h)) [
          | inl e ↦ absurd (below_not_in y ys t.0 (subst (λ z. Has z ys) (sym e ∙ head) h))
          | inr m ↦ m
        ] in
        let rest : xs ≡ ys = same_sorted xs ys s.1 t.1 right left in
        cc
