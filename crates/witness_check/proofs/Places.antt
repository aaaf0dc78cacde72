-- The first answer over the places of two lists, place by place, and where it stands.
use Rattle.std.proofs.Common.{◌≡◌, ◌<◌, ◌≤◌, ◌+◌, ℕ, suc, true, false, Option, None, Some, IfNone, is_some, List, [], ◌∷◌, length, get_or, take, drop, refl, ap, ◌∙◌, sym, arith}
use Rattle.std.specs.List.{slice_get}
use Rattle.std.specs.Option.{option_or}
use Rattle.std.proofs.lemmas.List.{drop_all, drop_more, take_all, take_more_same}
use Rattle.witness_check.specs.Difference.{first_answer}

module _ {X Y : Type 0} (answer : ℕ → X → X → Option Y) where
  -- the places before one have no answer and are the same, so the answer is that of the rest
  pub record HasNone (first second : List X) (i : ℕ) : Type 0 where
    pub rest : first_answer answer 0 first second ≡ first_answer answer i (drop i first) (drop i second)
    pub same : take i first ≡ take i second

  module _ (first second : List X) (i : ℕ) (x y : X) (there : i < length first) (also : i < length second) (at : x ≡ get_or first i x) (here : y ≡ get_or second i y) where
    from_here : first_answer answer i (drop i first) (drop i second) ≡ option_or (answer i x y) (first_answer answer (i + 1) (drop (i + 1) first) (drop (i + 1) second))
    from_here =
        ap (λ l. first_answer answer i l (drop i second)) (drop_more first i x there ∙ ap (λ (z : X). z ∷ drop (i + 1) first) (sym at))
        ∙ ap (first_answer answer i (x ∷ drop (i + 1) first)) (drop_more second i y also ∙ ap (λ (z : X). z ∷ drop (i + 1) second) (sym here))

    -- a place with one
    pub stops : (o : Option Y) → o ≡ answer i x y → is_some o ≡ true → HasNone first second i → o ≡ first_answer answer 0 first second
    stops None e bad so_far = cc
    stops (Some z) e some so_far = sym (so_far.rest ∙ from_here ∙ ap (λ o. option_or o (first_answer answer (i + 1) (drop (i + 1) first) (drop (i + 1) second))) (sym e))

    -- a place without one, where both are the same
    pub goes_on : (o : Option Y) → o ≡ answer i x y → is_some o ≡ false → (a b : X) → a ≡ x → b ≡ y → IfNone o (a ≡ b) → HasNone first second i → HasNone first second (i + 1)
    goes_on None e none a b one two same so_far =
        let alike : x ≡ y = sym one ∙ same ∙ two in
        record {
          rest = so_far.rest ∙ from_here ∙ ap (λ o. option_or o (first_answer answer (i + 1) (drop (i + 1) first) (drop (i + 1) second))) (sym e);
          same = take_more_same first second i x there also so_far.same (sym at ∙ alike ∙ here ∙ ap (get_or second i) (sym alike));
        }
    goes_on (Some z) e none a b one two same so_far = cc

  -- past the last place there is none, and the lists are the same
  pub none_left : (first second : List X) (i : ℕ) → length first ≤ i → HasNone first second i → None ≡ first_answer answer 0 first second
  none_left first second i past so_far = sym (so_far.rest ∙ ap (λ l. first_answer answer i l (drop i second)) (drop_all i first past))

  pub same_lists : (first second : List X) (i : ℕ) → length first ≤ i → length second ≤ i → HasNone first second i → first ≡ second
  same_lists first second i past past_too so_far = sym (take_all i first past) ∙ so_far.same ∙ take_all i second past_too

  -- the answer is that of a place
  pub record AnswersAt (at : ℕ) (first second : List X) (z : Y) : Type 0 where
    pub place : ℕ
    pub left : X
    pub right : X
    pub first_there : slice_get first place ≡ Some left
    pub second_there : slice_get second place ≡ Some right
    pub is : answer (at + place) left right ≡ Some z

  pub answers_at : (at : ℕ) (first second : List X) (z : Y) → first_answer answer at first second ≡ Some z → AnswersAt at first second z
  answers_at at [] second z e = let bad : None ≡ Some z = e in cc
  answers_at at (x ∷ first) [] z e = let bad : None ≡ Some z = e in cc
  answers_at at (x ∷ first) (y ∷ second) z e = by (answer at x y) refl e (λ rest. answers_at (at + 1) first second z rest)
    where
      by : (o : Option Y) → answer at x y ≡ o → option_or o (first_answer answer (at + 1) first second) ≡ Some z
          → (first_answer answer (at + 1) first second ≡ Some z → AnswersAt (at + 1) first second z) → AnswersAt at (x ∷ first) (y ∷ second) z
      by None none rest later =
          let m = later rest in
          let number : at + 1 + m.place ≡ at + suc m.place = omega arith in
          record { place = suc m.place; left = m.left; right = m.right; first_there = m.first_there; second_there = m.second_there; is = ap (λ n. answer n m.left m.right) (sym number) ∙ m.is }
      by (Some w) some found later =
          let number : at + 0 ≡ at = omega arith in
          record { place = 0; left = x; right = y; first_there = refl; second_there = refl; is = ap (λ n. answer n x y) number ∙ some ∙ found }

  -- where each place of a list and itself has none, there is none
  pub none_of_itself : ((i : ℕ) (x : X) → answer i x x ≡ None) → (at : ℕ) (xs : List X) → first_answer answer at xs xs ≡ None
  none_of_itself none at [] = refl
  none_of_itself none at (x ∷ xs) = ap (λ o. option_or o (first_answer answer (at + 1) xs xs)) (none at x) ∙ none_of_itself none (at + 1) xs
