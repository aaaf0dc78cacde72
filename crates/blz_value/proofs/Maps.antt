-- Maps that agree at each member of a list give the same list.
use Rattle.std.proofs.Common.{◌≡◌, List, [], ◌∷◌, ◌++◌, map, refl, ap, ◌∙◌, inl, inr}
use Rattle.std.specs.List.{flat_map}
use Rattle.blz_value.specs.Members.{Has}

pub same_map : {X Y : Type 0} (f g : X → Y) (xs : List X) → ((x : X) → Has x xs → f x ≡ g x) → map f xs ≡ map g xs
same_map f g [] same = refl
same_map f g (x ∷ xs) same = λ i. same x (inl refl) i ∷ same_map f g xs (λ y h. same y (inr h)) i

pub flat_map_same : {X Y : Type 0} (f g : X → List Y) (xs : List X) → ((x : X) → Has x xs → f x ≡ g x) → flat_map f xs ≡ flat_map g xs
flat_map_same f g [] same = refl
flat_map_same {Y = Y} f g (x ∷ xs) same = ap (λ (ys : List Y). ys ++ flat_map f xs) (same x (inl refl)) ∙ ap (λ (ys : List Y). g x ++ ys) (flat_map_same f g xs (λ y h. same y (inr h)))
