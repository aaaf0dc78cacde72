-- Walks over lists: one that passes is enough, the place of what is found by its name, and the numbers of copies.
use Rattle.std.proofs.Common.{◌≡◌, ◌∙◌, ◌<◌, ◌+◌, ◌||◌, ℕ, zero, suc, Bool, true, false, List, [], ◌∷◌, ◌++◌, refl, ap, sym, subst, inl, inr, arith}
use Rattle.std.specs.List.{list_any, range_with_len}
use Rattle.blz_value.specs.Members.{Has}

pub any_has : {X : Type 0} (p : X → Bool) (xs : List X) (x : X) → Has x xs → p x ≡ true → list_any p xs ≡ true
any_has p [] x h t = absurd h
any_has p (y ∷ xs) x (inl e) t = rw (subst (λ z. p z ≡ true) (sym e) t) refl
any_has p (y ∷ xs) x (inr h) t = either_way (p y) (list_any p xs) (any_has p xs x h t)
  where
    either_way : (a b : Bool) → b ≡ true → (a || b) ≡ true
    either_way true b e = refl
    either_way false b e = e

range_more : (a n : ℕ) → range_with_len a (suc n) ≡ range_with_len a n ++ (n + a) ∷ []
range_more a zero = let z : a ≡ 0 + a = omega arith in λ i. z i ∷ []
range_more a (suc n) = let next : n + (a + 1) ≡ suc n + a = omega arith in ap (λ (xs : List ℕ). a ∷ xs) (range_more (a + 1) n ∙ ap (λ (k : ℕ). range_with_len (a + 1) n ++ k ∷ []) next)

-- one copy more
pub number_more : (n : ℕ) → range_with_len 1 (n + 1) ≡ range_with_len 1 n ++ (n + 1) ∷ []
number_more n = let one : n + 1 ≡ suc n = omega arith in ap (range_with_len 1) one ∙ range_more 1 n
