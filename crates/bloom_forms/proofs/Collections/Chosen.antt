-- Sets of the numbers of those elements of a list that pass a test.
use Rattle.std.proofs.Common.{◌≡◌, ◌<◌, ◌^◌, ◌⊎◌, inl, inr, ℕ, Bool, true, false, bit_or, List, [], ◌∷◌, map, refl, arith, sym, ◌∙◌}
use Rattle.std.proofs.lemmas.Bool.{or_cases, true≢false}
use Rattle.blz_value.specs.Members.{Has}
use Rattle.blz_value.specs.Bits.{bit_of, meets}
use Rattle.blz_value.specs.Closure.{within}
use Rattle.blz_value.proofs.Within.{within-refl, within-trans, within-or_l, within-or_r}
use Rattle.blz_value.proofs.Members.{in-within, in-empty, in-or, one_number, own-in}
use Rattle.blz_value.specs.Arrows.{with_all, bit_if}
use Rattle.bloom_forms.proofs.Reach.Unfolding.{bit_if-lt, with_all-lt}

from_bit_if : (b : Bool) (m n : ℕ) → n < 64 → meets (bit_of n) (bit_if b m) ≡ true → (b ≡ true) × (m ≡ n)
from_bit_if true m n lt h = (refl, one_number n m lt h)
from_bit_if false m n lt h = absurd (true≢false (sym h ∙ in-empty n))

module _ {X : Type 0} (test : X → Bool) (number : X → ℕ) where
  -- of each element that passes the test the set of its number
  abbrev pub chosen : List X → List ℕ
  chosen xs = map (λ x. bit_if (test x) (number x)) xs

  -- an element with the number that passes the test
  pub record IsChosen (xs : List X) (n : ℕ) : Type 0 where
    pub element : X
    pub stands : Has element xs
    pub passes : test element ≡ true
    pub is : number element ≡ n

  chosen-later : (x : X) (xs : List X) (n : ℕ) → IsChosen xs n → IsChosen (x ∷ xs) n
  chosen-later x xs n c = record { element = c.element; stands = inr c.stands; passes = c.passes; is = c.is }

  chosen-first : (x : X) (xs : List X) (n : ℕ) → n < 64 → meets (bit_of n) (bit_if (test x) (number x)) ≡ true → IsChosen (x ∷ xs) n
  chosen-first x xs n lt h = let both = from_bit_if (test x) (number x) n lt h in record { element = x; stands = inl refl; passes = both.0; is = both.1 }

  chosen-from : (s : ℕ) (xs : List X) (n : ℕ) → n < 64 → meets (bit_of n) (with_all s (chosen xs)) ≡ true
      → (meets (bit_of n) s ≡ true) ⊎ IsChosen xs n
  chosen-from s [] n lt h = inl h
  chosen-from s (x ∷ xs) n lt h = elim (chosen-from (bit_or s (bit_if (test x) (number x))) xs n lt h) [
    | inl t ↦ elim (or_cases _ _ (sym (in-or n s (bit_if (test x) (number x)) lt) ∙ t)) [ inl old ↦ inl old | inr new ↦ inr (chosen-first x xs n lt new) ]
    | inr c ↦ inr (chosen-later x xs n c)
  ]

  -- who is in the set is the number of such an element
  pub from_chosen : (xs : List X) (n : ℕ) → n < 64 → meets (bit_of n) (with_all 0 (chosen xs)) ≡ true → IsChosen xs n
  from_chosen xs n lt h = elim (chosen-from 0 xs n lt h) [ inl none ↦ absurd (true≢false (sym none ∙ in-empty n)) | inr c ↦ c ]

  chosen-keeps : (s : ℕ) (xs : List X) → within s (with_all s (chosen xs)) ≡ true
  chosen-keeps s [] = within-refl s
  chosen-keeps s (x ∷ xs) = within-trans s (bit_or s (bit_if (test x) (number x))) _ (within-or_l s (bit_if (test x) (number x))) (chosen-keeps (bit_or s (bit_if (test x) (number x))) xs)

  chosen-at : (s : ℕ) (xs : List X) (x : X) → Has x xs → test x ≡ true → number x < 64
      → meets (bit_of (number x)) (with_all s (chosen xs)) ≡ true
  chosen-at s [] x n passes lt = absurd n
  chosen-at s (y ∷ xs) x (inl e) passes lt =
      let next = bit_or s (bit_if (test y) (number y)) in
      let own : meets (bit_of (number x)) (bit_if (test x) (number x)) ≡ true = rw passes (own-in (number x) lt) in
      let there : meets (bit_of (number x)) (bit_if (test y) (number y)) ≡ true = rw e own in
      let here : meets (bit_of (number x)) next ≡ true = in-within (number x) (bit_if (test y) (number y)) next lt there (within-or_r s (bit_if (test y) (number y))) in
      in-within (number x) next _ lt here (chosen-keeps next xs)
  chosen-at s (y ∷ xs) x (inr n) passes lt = chosen-at (bit_or s (bit_if (test y) (number y))) xs x n passes lt

  -- the number of such an element is in the set
  pub in_chosen : (xs : List X) (x : X) → Has x xs → test x ≡ true → number x < 64
      → meets (bit_of (number x)) (with_all 0 (chosen xs)) ≡ true
  in_chosen xs x n passes lt = chosen-at 0 xs x n passes lt

  -- the set has only small numbers
  pub chosen-lt : (xs : List X) → with_all 0 (chosen xs) < 2 ^ 64
  chosen-lt xs = with_all-lt (λ x. bit_if (test x) (number x)) (λ x. bit_if-lt (test x) (number x)) 0 xs (omega arith)
