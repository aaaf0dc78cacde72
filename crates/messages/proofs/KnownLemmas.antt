-- A number that is noted at a place is known there then, and no other.
use Rattle.std.proofs.Common.{◌≡◌, ◌<◌, ◌≤◌, ◌==◌, ◌&&◌, ◌||◌, ℕ, zero, suc, true, false, List, [], ◌∷◌, ◌++◌, length, get_or, set, refl, ap, ◌∙◌, sym, subst, inl, inr}
use Rattle.std.proofs.lemmas.Bool.{cases_eq, eq-eqb, ne_eqb}
use Rattle.std.proofs.lemmas.List.{get_or_past, get_or_read, get_or-set_other, get_or-set_same}
use Rattle.messages.specs.Numbers.{has_number, HasAlso, IsCountOf}
use Rattle.messages.specs.Known.{is_known, KnowsAlso}
use Rattle.messages.proofs.CountingLemmas.{none_counted}
use Rattle.messages.proofs.NumbersLemmas.{none_set}

-- ---- the places

-- nothing is known where nothing is kept
pub none_known : (place number : ℕ) → is_known [] place number ≡ true → ⊥
none_known place number is = (let bad : false ≡ true = sym (none_set number) ∙ is in cc)

-- the count of a place that is found, and of one past the last
pub count_found : (known : List (List ℕ)) (place : ℕ) (words : List ℕ) (count : ℕ) → place < length known → words ≡ get_or known place words → IsCountOf (has_number words) count → IsCountOf (is_known known place) count
count_found known place words count inside at is = subst (λ (w : List ℕ). IsCountOf (has_number w) count) (get_or_read known place words inside at []) is

pub none_found : (known : List (List ℕ)) (place : ℕ) → length known ≤ place → IsCountOf (is_known known place) 0
none_found known place past = subst (λ (w : List ℕ). IsCountOf (has_number w) 0) (sym (get_or_past known place [] past)) (none_counted (has_number []) none_set)

no_words : (known : List (List ℕ)) (place : ℕ) → get_or (known ++ [] ∷ []) place [] ≡ get_or known place []
no_words [] zero = refl
no_words [] (suc place) = refl
no_words (words ∷ known) zero = refl
no_words (words ∷ known) (suc place) = no_words known place

-- a place more of which nothing is known
pub place_more : (first known new : List (List ℕ)) (words : List ℕ) → new ≡ known ++ words ∷ [] → words ≡ [] → ((n k : ℕ) → is_known known n k ≡ is_known first n k) → (n k : ℕ) → is_known new n k ≡ is_known first n k
place_more first known new words pushed none before n k =
    ap (λ (l : List (List ℕ)). is_known l n k) (pushed ∙ ap (λ (w : List ℕ). known ++ w ∷ []) none)
    ∙ ap (λ (w : List ℕ). has_number w k) (no_words known n)
    ∙ before n k

-- one number more in the words of a place
pub place_knows : (first places : List (List ℕ)) (place number : ℕ) (was now : List ℕ) → place < length places → was ≡ get_or places place was → ((n k : ℕ) → is_known places n k ≡ is_known first n k) → HasAlso number was now → KnowsAlso place number first (set places place now)
place_knows first places place number was now inside at before also n k = elim (cases_eq n place) [
  | inl same ↦
      let own : get_or (set places place now) n [] ≡ now = ap (λ j. get_or (set places place now) j []) same ∙ get_or-set_same places place now [] inside in
      let old : get_or places n [] ≡ was = ap (λ j. get_or places j []) same ∙ sym (get_or_read places place was inside at []) in
      ap (λ (w : List ℕ). has_number w k) own
      ∙ also k
      ∙ ap (λ (w : List ℕ). k == number || has_number w k) (sym old)
      ∙ ap (λ b. k == number || b) (before n k)
      ∙ sym (ap (λ b. (b && k == number) || is_known first n k) (eq-eqb n place same))
  | inr other ↦
      ap (λ (w : List ℕ). has_number w k) (get_or-set_other places place n now [] other)
      ∙ before n k
      ∙ sym (ap (λ b. (b && k == number) || is_known first n k) (ne_eqb n place other))
]

-- the same numbers in the words of a place
pub place_same : (first places : List (List ℕ)) (place : ℕ) (was now : List ℕ) → place < length places → was ≡ get_or places place was → ((n k : ℕ) → is_known places n k ≡ is_known first n k) → ((k : ℕ) → has_number now k ≡ has_number was k) → (n k : ℕ) → is_known (set places place now) n k ≡ is_known first n k
place_same first places place was now inside at before same n k = elim (cases_eq n place) [
  | inl here ↦
      let own : get_or (set places place now) n [] ≡ now = ap (λ j. get_or (set places place now) j []) here ∙ get_or-set_same places place now [] inside in
      let old : get_or places n [] ≡ was = ap (λ j. get_or places j []) here ∙ sym (get_or_read places place was inside at []) in
      ap (λ (w : List ℕ). has_number w k) own ∙ same k ∙ ap (λ (w : List ℕ). has_number w k) (sym old) ∙ before n k
  | inr other ↦ ap (λ (w : List ℕ). has_number w k) (get_or-set_other places place n now [] other) ∙ before n k
]
