-- A trimmed list is a sublist.
use Rattle.std.proofs.Common.{refl, subst, ℕ, zero, suc, Bool, true, false, List, [], ◌∷◌, length, inl, inr}
use Rattle.std.specs.Prelude.{if◌then◌else◌}
use Rattle.std.specs.List.{remove}
use Rattle.why_trace.specs.Passes.{without_needless, passed_below, one_pass, passes, trim_by, IsSublist}

module _ {X : Type 0} where
  sublist_itself : (xs : List X) → IsSublist xs xs
  sublist_itself [] = refl
  sublist_itself (x ∷ xs) = inr (xs, refl, sublist_itself xs)

  sublist_trans : (a b c : List X) → IsSublist a b → IsSublist b c → IsSublist a c
  sublist_trans a b [] p q = subst (λ (l : List X). IsSublist a l) q p
  sublist_trans a b (x ∷ c) p (inl q) = inl (sublist_trans a b c p q)
  sublist_trans a b (x ∷ c) p (inr (rest, is, q)) = either (subst (λ (l : List X). IsSublist a l) is p) (λ (l : List X) (r : IsSublist l rest). sublist_trans l rest c r q)
    where
      either : IsSublist a (x ∷ rest) → ((l : List X) → IsSublist l rest → IsSublist l c) → IsSublist a (x ∷ c)
      either (inl r) on = inl (on a r)
      either (inr (more, starts, r)) on = inr (more, starts, on more r)

  sublist_without : (xs : List X) (place : ℕ) → IsSublist (remove xs place) xs
  sublist_without [] zero = refl
  sublist_without [] (suc place) = refl
  sublist_without (x ∷ xs) zero = inl (sublist_itself xs)
  sublist_without (x ∷ xs) (suc place) = inr (remove xs place, refl, sublist_without xs place)

  module _ (test : List X → Bool) where
    sublist_chosen : (xs : List X) (place : ℕ) (b : Bool) → IsSublist (if b then remove xs place else xs) xs
    sublist_chosen xs place true = sublist_without xs place
    sublist_chosen xs place false = sublist_itself xs

    sublist_below : (count : ℕ) (xs : List X) → IsSublist (passed_below test count xs) xs
    sublist_below zero xs = sublist_itself xs
    sublist_below (suc place) xs =
        let next : List X = without_needless test place xs in
        sublist_trans (passed_below test place next) next xs (sublist_below place next) (sublist_chosen xs place (test (remove xs place)))

    sublist_passed : (count : ℕ) (xs : List X) → IsSublist (passes test count xs) xs
    sublist_passed zero xs = sublist_itself xs
    sublist_passed (suc count) xs = sublist_trans (passes test count (one_pass test xs)) (one_pass test xs) xs (sublist_passed count (one_pass test xs)) (sublist_below (length xs) xs)

    pub trimmed_sublist : (xs : List X) → IsSublist (trim_by test xs) xs
    trimmed_sublist xs = sublist_passed (length xs) xs
