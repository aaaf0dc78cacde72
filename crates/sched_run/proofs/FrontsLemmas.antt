-- The front of a list has the elements of the whole, is no longer, and what a test finds in it is found in the whole.
use Rattle.std.proofs.Common.{◌≡◌, ◌<◌, ◌||◌, not, ℕ, zero, suc, Bool, true, false, List, [], ◌∷◌, ◌++◌, length, slice_get, refl, ap, ◌∙◌, sym, arith}
use Rattle.std.specs.List.{list_any}
use Rattle.std.proofs.lemmas.List.Folds.{list_any-append}
use Rattle.inbox.specs.Growth.{Continues}

-- an element of a front stands in the whole
pub append_get : {X : Type 0} (xs more : List X) (n : ℕ) → n < length xs → slice_get (xs ++ more) n ≡ slice_get xs n
append_get [] more n within = absurd (omega arith)
append_get (x ∷ xs) more zero within = refl
append_get (x ∷ xs) more (suc n) within = append_get xs more n (omega arith)

pub front_get : {X : Type 0} (xs ys : List X) (n : ℕ) → Continues xs ys → n < length xs → slice_get ys n ≡ slice_get xs n
front_get {X} xs ys n more within = ap (λ (l : List X). slice_get l n) (sym more.with_more) ∙ append_get xs more.more n within

-- what isn't found in the whole isn't found in a front
pub none_in_front : {X : Type 0} (test : X → Bool) (xs ys : List X) → Continues xs ys → not (list_any test ys) ≡ true → not (list_any test xs) ≡ true
none_in_front {X} test xs ys more none =
    first_none (list_any test xs) (list_any test more.more)
    (ap not (sym (list_any-append test xs more.more) ∙ ap (list_any test) more.with_more) ∙ none)
  where
    first_none : (a b : Bool) → not (a || b) ≡ true → not a ≡ true
    first_none true b e = e
    first_none false b e = refl
