-- The members of a list of what a test makes of others.
use Rattle.std.proofs.Common.{◌≡◌, refl, ap, ◌∙◌, List, [], ◌∷◌, inl, inr, ◌⊎◌, Option, None, Some}
use Rattle.std.specs.List.{filter_map, cons_option}
use Rattle.std.specs.Option.{unwrap_or}
use Rattle.blz_value.specs.Members.{Has}

module _ {Y : Type 0} where
  cons_option-left : (y z : Y) (o : Option Y) (ys : List Y) → o ≡ Some y → Has y (cons_option o ys)
  cons_option-left y z None ys e = cc
  cons_option-left y z (Some x) ys e = inl (ap (λ o. unwrap_or o z) e)

  cons_option-right : (y : Y) (o : Option Y) (ys : List Y) → Has y ys → Has y (cons_option o ys)
  cons_option-right y None ys h = h
  cons_option-right y (Some x) ys h = inr h

  cons_option-cases : (y : Y) (o : Option Y) (ys : List Y) → Has y (cons_option o ys) → (o ≡ Some y) ⊎ Has y ys
  cons_option-cases y None ys h = inr h
  cons_option-cases y (Some x) ys (inl e) = inl (ap Some e)
  cons_option-cases y (Some x) ys (inr h) = inr h

module _ {X Y : Type 0} where
  pub Has-filter_map : (f : X → Option Y) (x : X) (y : Y) (xs : List X) → Has x xs → f x ≡ Some y → Has y (filter_map f xs)
  Has-filter_map f x y [] h e = absurd h
  Has-filter_map f x y (z ∷ xs) (inl s) e = cons_option-left y y (f z) (filter_map f xs) (ap f s ∙ e)
  Has-filter_map f x y (z ∷ xs) (inr h) e = cons_option-right y (f z) (filter_map f xs) (Has-filter_map f x y xs h e)

  pub Has-from_filter_map : (f : X → Option Y) (y : Y) (xs : List X) → Has y (filter_map f xs) → (x : X) × Has x xs × (f x ≡ Some y)
  Has-from_filter_map f y [] h = absurd h
  Has-from_filter_map f y (x ∷ xs) h = elim (cons_option-cases y (f x) (filter_map f xs) h) [
    | inl e ↦ (x, inl refl, e)
    | inr rest ↦ let m = Has-from_filter_map f y xs rest in (m.0, inr m.1, m.2)
  ]
