-- Membership in lists that are made of others.
use Rattle.std.proofs.Common.{◌≡◌, ℕ, zero, suc, ◌<◌, Bool, true, false, cond, List, [], ◌∷◌, ◌++◌, length, get_or, map, filter, refl, ap, ◌∙◌, sym, subst, inl, inr, ◌⊎◌, ◌||◌, arith}
use Rattle.std.specs.Cmp.{first_so, second_so}
use Rattle.std.specs.List.{flat_map, list_all, list_any, All, Contains}
use Rattle.blz_value.specs.Members.{Has, IsWithin, HaveEqualMembers}

module _ {X : Type 0} where
  -- a test that all elements pass

  pub all_member : (p : X → Bool) (xs : List X) (x : X) → list_all p xs ≡ true → Has x xs → p x ≡ true
  all_member p [] x passes h = absurd h
  all_member p (y ∷ xs) x passes (inl e) = subst (λ z. p z ≡ true) e (first_so (p y) (list_all p xs) passes)
  all_member p (y ∷ xs) x passes (inr h) = all_member p xs x (second_so (p y) (list_all p xs) passes) h

  pub all_from : (p : X → Bool) (xs : List X) → ((x : X) → Has x xs → p x ≡ true) → list_all p xs ≡ true
  all_from p [] each = refl
  all_from p (y ∷ xs) each = rw (each y (inl refl)) (all_from p xs (λ x h. each x (inr h)))

  -- one list after another

  pub Has-append_left : (q : X) (xs ys : List X) → Has q xs → Has q (xs ++ ys)
  Has-append_left q [] ys h = absurd h
  Has-append_left q (x ∷ xs) ys (inl e) = inl e
  Has-append_left q (x ∷ xs) ys (inr h) = inr (Has-append_left q xs ys h)

  pub Has-append_right : (q : X) (xs ys : List X) → Has q ys → Has q (xs ++ ys)
  Has-append_right q [] ys h = h
  Has-append_right q (x ∷ xs) ys h = inr (Has-append_right q xs ys h)

  pub Has-append_cases : (q : X) (xs ys : List X) → Has q (xs ++ ys) → Has q xs ⊎ Has q ys
  Has-append_cases q [] ys h = inr h
  Has-append_cases q (x ∷ xs) ys (inl e) = inl (inl e)
  Has-append_cases q (x ∷ xs) ys (inr h) = elim (Has-append_cases q xs ys h) [ inl a ↦ inl (inr a) | inr b ↦ inr b ]

  -- an element in front, or at the end
  pub push_front : (x : X) (xs : List X) → HaveEqualMembers (xs ++ x ∷ []) (x ∷ xs)
  push_front x xs = (
    λ q h. elim (Has-append_cases q xs (x ∷ []) h) [ inl a ↦ inr a | inr b ↦ elim b [ inl e ↦ inl e | inr n ↦ absurd n ] ],
    λ q h. elim h [ inl e ↦ Has-append_right q xs (x ∷ []) (inl e) | inr a ↦ Has-append_left q xs (x ∷ []) a ],
  )

  -- other elements in both lists' places
  pub append_within : (xs ys us vs : List X) → IsWithin xs us → IsWithin ys vs → IsWithin (xs ++ ys) (us ++ vs)
  append_within xs ys us vs f g q h = elim (Has-append_cases q xs ys h) [ inl a ↦ Has-append_left q us vs (f q a) | inr b ↦ Has-append_right q us vs (g q b) ]

  -- a place

  pub Has-get_or : (xs : List X) (k : ℕ) (d : X) → k < length xs → Has (get_or xs k d) xs
  Has-get_or [] k d lt = absurd (omega arith)
  Has-get_or (x ∷ xs) zero d lt = inl refl
  Has-get_or (x ∷ xs) (suc k) d lt = inr (Has-get_or xs k d (omega arith))

  pub Has-from_Contains : (xs : List X) (x : X) → Contains xs x → Has x xs
  Has-from_Contains [] x c = absurd (omega (arith, c.1))
  Has-from_Contains (y ∷ xs) x (zero, below, e) = inl e
  Has-from_Contains (y ∷ xs) x (suc k, below, e) = inr (Has-from_Contains xs x (k, omega arith, e))

  pub Contains-from_Has : (xs : List X) (x : X) → Has x xs → Contains xs x
  Contains-from_Has [] x h = absurd h
  Contains-from_Has (y ∷ xs) x (inl e) = (0, omega arith, e)
  Contains-from_Has (y ∷ xs) x (inr h) = let c = Contains-from_Has xs x h in (suc c.0, omega (arith, c.1), c.2)

  -- what holds of all elements holds of a member
  pub All-of_member : (P : X → Type 0) (xs : List X) (q : X) → All P xs → Has q xs → P q
  All-of_member P xs q all h = let place = Contains-from_Has xs q h in subst P place.2 (all place.0 q place.1)

  -- a filter

  filter_cons : (p : X → Bool) (q x : X) (xs : List X) (b : Bool) → p x ≡ b → Has q (cond b (x ∷ filter p xs) (filter p xs)) → (Has q (filter p xs) → Has q xs × (p q ≡ true)) → Has q (x ∷ xs) × (p q ≡ true)
  filter_cons p q x xs true e (inl s) more = (inl s, subst (λ z. p z ≡ true) s e)
  filter_cons p q x xs true e (inr h) more = let m = more h in (inr m.0, m.1)
  filter_cons p q x xs false e h more = let m = more h in (inr m.0, m.1)

  pub Has-from_filter : (p : X → Bool) (q : X) (xs : List X) → Has q (filter p xs) → Has q xs × (p q ≡ true)
  Has-from_filter p q [] h = absurd h
  Has-from_filter p q (x ∷ xs) h = filter_cons p q x xs (p x) refl h (Has-from_filter p q xs)

  filter_rest : (p : X → Bool) (q x : X) (xs : List X) (b : Bool) → Has q (filter p xs) → Has q (cond b (x ∷ filter p xs) (filter p xs))
  filter_rest p q x xs true h = inr h
  filter_rest p q x xs false h = h

  pub Has-filter : (p : X → Bool) (q : X) (xs : List X) → Has q xs → p q ≡ true → Has q (filter p xs)
  Has-filter p q [] h e = absurd h
  Has-filter p q (x ∷ xs) (inl s) e = rw (ap p s ∙ e) (inl s)
  Has-filter p q (x ∷ xs) (inr h) e = filter_rest p q x xs (p x) (Has-filter p q xs h e)

  -- the filters of lists with equal members
  pub filter_members : (p : X → Bool) (xs ys : List X) → HaveEqualMembers xs ys → HaveEqualMembers (filter p xs) (filter p ys)
  filter_members p xs ys same = (
    λ q h. let m = Has-from_filter p q xs h in Has-filter p q ys (same.0 q m.0) m.1,
    λ q h. let m = Has-from_filter p q ys h in Has-filter p q xs (same.1 q m.0) m.1,
  )

  -- a member that passes a test, and whether there is one

  pub any_from_Has : (p : X → Bool) (q : X) (xs : List X) → Has q xs → p q ≡ true → list_any p xs ≡ true
  any_from_Has p q [] h e = absurd h
  any_from_Has p q (x ∷ xs) (inl s) e = rw (ap p s ∙ e) refl
  any_from_Has p q (x ∷ xs) (inr h) e = elim (p x) as (λ b. (b || list_any p xs) ≡ true) [ true ↦ refl | false ↦ any_from_Has p q xs h e ]

  any_cases : (p : X → Bool) (x : X) (xs : List X) (b : Bool) → p x ≡ b → (b || list_any p xs) ≡ true → (list_any p xs ≡ true → (q : X) × Has q xs × (p q ≡ true)) → (q : X) × Has q (x ∷ xs) × (p q ≡ true)
  any_cases p x xs true e h more = (x, inl refl, e)
  any_cases p x xs false e h more = let m = more h in (m.0, inr m.1, m.2)

  pub Has-from_any : (p : X → Bool) (xs : List X) → list_any p xs ≡ true → (q : X) × Has q xs × (p q ≡ true)
  Has-from_any p [] e = cc
  Has-from_any p (x ∷ xs) e = any_cases p x xs (p x) refl e (Has-from_any p xs)

module _ {X Y : Type 0} where
  -- a map

  pub Has-map : (f : X → Y) (x : X) (xs : List X) → Has x xs → Has (f x) (map f xs)
  Has-map f x [] h = absurd h
  Has-map f x (y ∷ xs) (inl e) = inl (ap f e)
  Has-map f x (y ∷ xs) (inr h) = inr (Has-map f x xs h)

  pub Has-from_map : (f : X → Y) (y : Y) (xs : List X) → Has y (map f xs) → (x : X) × Has x xs × (f x ≡ y)
  Has-from_map f y [] h = absurd h
  Has-from_map f y (x ∷ xs) (inl e) = (x, inl refl, e)
  Has-from_map f y (x ∷ xs) (inr h) = let m = Has-from_map f y xs h in (m.0, inr m.1, m.2)

  map_within : (f : X → Y) (xs ys : List X) → IsWithin xs ys → IsWithin (map f xs) (map f ys)
  map_within f xs ys inside q h = let m = Has-from_map f q xs h in subst (λ z. Has z (map f ys)) m.2 (Has-map f m.0 ys (inside m.0 m.1))

  -- the maps of lists with equal members
  pub map_members : (f : X → Y) (xs ys : List X) → HaveEqualMembers xs ys → HaveEqualMembers (map f xs) (map f ys)
  map_members f xs ys same = (map_within f xs ys same.0, map_within f ys xs same.1)

  -- a map to lists, joined

  pub Has-flat_map : (f : X → List Y) (x : X) (y : Y) (xs : List X) → Has x xs → Has y (f x) → Has y (flat_map f xs)
  Has-flat_map f x y [] h g = absurd h
  Has-flat_map f x y (z ∷ xs) (inl e) g = Has-append_left y (f z) (flat_map f xs) (subst (λ w. Has y (f w)) (sym e) g)
  Has-flat_map f x y (z ∷ xs) (inr h) g = Has-append_right y (f z) (flat_map f xs) (Has-flat_map f x y xs h g)

  pub Has-from_flat_map : (f : X → List Y) (y : Y) (xs : List X) → Has y (flat_map f xs) → (x : X) × Has x xs × Has y (f x)
  Has-from_flat_map f y [] h = absurd h
  Has-from_flat_map f y (x ∷ xs) h =
      elim (Has-append_cases y (f x) (flat_map f xs) h) [
        | inl a ↦ (x, inl refl, a)
        | inr b ↦ let m = Has-from_flat_map f y xs b in (m.0, inr m.1, m.2)
      ]
