-- The bits of words: which number has a bit, what setting one changes, and that words of zeros add nothing.
use Rattle.std.specs.Prelude.{Result, Ok, Err, is_ok, if◌then◌else◌}
use Rattle.std.proofs.Common.{◌≡◌, ◌<◌, ◌≤◌, ◌+◌, ◌*◌, ◌/◌, ◌%◌, ◌^◌, ◌==◌, ◌||◌, ◌++◌, ℕ, zero, suc, true, false, not, nat_eq, List, [], ◌∷◌, length, get_or, set, take, replicate, bit_and, bit_or, refl, ap, ◌∙◌, sym, subst, inl, inr, arith}
use Rattle.std.proofs.lemmas.Bool.{cases_eq, cases_lt, eq-eqb, ne_eqb, or_left}
use Rattle.std.proofs.lemmas.List.{get_or_read, get_or-set_same, get_or-set_other, get_or_past, take_all}
use Rattle.std.proofs.lemmas.Nat.{div-add-mod', mod_below, one_shl}
use Rattle.blz_value.specs.Bits.{bit_of, meets}
use Rattle.blz_value.proofs.Members.{bit_of-is, in-bit_same, in-bit_other, in-empty}
use Rattle.messages.specs.Numbers.{has_number, HasAlso, IsCountOf, AreCounted, word_limit}
use Rattle.messages.proofs.CountingLemmas.{none_counted, same_counted, one_counted, few_counted}

-- ---- one bit

small : (number : ℕ) → number % 64 < 64
small number = mod_below number 64 (omega arith)

pub bit_made : (number : ℕ) → 1 * 2 ^ (number % 64) % 2 ^ 64 ≡ bit_of (number % 64)
bit_made number = one_shl (number % 64) 64 (small number) ∙ sym (bit_of-is (number % 64) (small number))

pub bit_tested : (bit word b w : ℕ) → b ≡ bit → w ≡ word → not (nat_eq (bit_and b w) 0) ≡ meets bit word
unfolding meets
bit_tested bit word b w is at = ap (λ x. not (nat_eq (bit_and x w) 0)) is ∙ ap (λ x. not (nat_eq (bit_and bit x) 0)) at

-- an number by its word and its bit
same_index : (k number : ℕ) → k / 64 ≡ number / 64 → k % 64 ≡ number % 64 → k ≡ number
same_index k number words bits = omega (arith, div-add-mod' k 64, div-add-mod' number 64, words, bits)

-- no number is set in no words
pub none_set : (number : ℕ) → has_number [] number ≡ false
none_set number = in-empty (number % 64)

-- ---- a bit that is set

module _ (words : List ℕ) (number : ℕ) where
  pub bit_set : number / 64 < length words → HasAlso number words (set words (number / 64) (bit_or (get_or words (number / 64) 0) (bit_of (number % 64))))
  bit_set inside k =
      let word : ℕ = get_or words (number / 64) 0 in
      let new : ℕ = bit_or word (bit_of (number % 64)) in
      let changed : List ℕ = set words (number / 64) new in
      elim (cases_eq (k / 64) (number / 64)) [
        | inl same_word ↦
            let found : get_or changed (k / 64) 0 ≡ new = ap (λ j. get_or changed j 0) same_word ∙ get_or-set_same words (number / 64) new 0 inside in
            elim (cases_eq (k % 64) (number % 64)) [
              | inl same_bit ↦
                  ap (meets (bit_of (k % 64))) found
                  ∙ ap (λ b. meets (bit_of b) new) same_bit
                  ∙ in-bit_same (number % 64) word (small number)
                  ∙ sym (or_left (k == number) (has_number words k) (eq-eqb k number (same_index k number same_word same_bit)))
              | inr other_bit ↦
                  ap (meets (bit_of (k % 64))) found
                  ∙ in-bit_other (k % 64) (number % 64) word (small k) (small number) other_bit
                  ∙ ap (λ j. meets (bit_of (k % 64)) (get_or words j 0)) (sym same_word)
                  ∙ sym (ap (λ b. b || has_number words k) (ne_eqb k number (λ e. other_bit (ap (λ j. j % 64) e))))
            ]
        | inr other_word ↦
            ap (meets (bit_of (k % 64))) (get_or-set_other words (number / 64) (k / 64) new 0 other_word)
            ∙ sym (ap (λ b. b || has_number words k) (ne_eqb k number (λ e. other_word (ap (λ j. j / 64) e))))
      ]

  -- as it is written
  pub bit_put : (was bit : ℕ) → number / 64 < length words → was ≡ get_or words (number / 64) was → bit ≡ bit_of (number % 64) → HasAlso number words (set words (number / 64) (bit_or was bit))
  bit_put was bit inside at is =
      subst (λ w. HasAlso number words (set words (number / 64) w))
      (sym (ap (λ w. bit_or w bit) (get_or_read words (number / 64) was inside at 0) ∙ ap (bit_or (get_or words (number / 64) 0)) is))
      (bit_set inside)

-- a bit that is set already
pub already_set : (words : List ℕ) (number : ℕ) → has_number words number ≡ true → HasAlso number words words
already_set words number is k = elim (cases_eq k number) [
  | inl same ↦ ap (has_number words) same ∙ is ∙ sym (or_left (k == number) (has_number words k) (eq-eqb k number same))
  | inr other ↦ sym (ap (λ b. b || has_number words k) (ne_eqb k number other))
]

-- ---- words of zeros

zeros : (m i : ℕ) → get_or (replicate m zero) i zero ≡ zero
zeros zero i = refl
zeros (suc m) zero = refl
zeros (suc m) (suc i) = zeros m i

with_zeros : (words : List ℕ) (m i : ℕ) → get_or (words ++ replicate m 0) i 0 ≡ get_or words i 0
with_zeros [] m i = zeros m i
with_zeros (w ∷ words) m zero = refl
with_zeros (w ∷ words) m (suc i) = with_zeros words m i

pub same_bits : (words new : List ℕ) (n m : ℕ) → length words ≤ n → new ≡ take n words ++ replicate m 0 → (k : ℕ) → has_number new k ≡ has_number words k
same_bits words new n m more is k =
    ap (λ (l : List ℕ). has_number l k) (is ∙ ap (λ l. l ++ replicate m 0) (take_all n words more))
    ∙ ap (meets (bit_of (k % 64))) (with_zeros words m (k / 64))

-- as a vector grows, or not where memory is short
pub same_resized : {E : Type 0} (r : Result (Unit {0}) E) (words new : List ℕ) (n m : ℕ) → length words ≤ n → new ≡ (if is_ok r then take n words ++ replicate m 0 else words) → (k : ℕ) → has_number new k ≡ has_number words k
same_resized (Ok x) words new n m more is k = same_bits words new n m more is k
same_resized (Err e) words new n m more is k = ap (λ (l : List ℕ). has_number l k) is

-- ---- counted words

pub none_are_counted : AreCounted [] 0
none_are_counted = record { few = omega arith; counted = none_counted (has_number []) none_set }

pub room_counted : (words new : List ℕ) (count : ℕ) → AreCounted words count → ((k : ℕ) → has_number new k ≡ has_number words k) → (length words ≤ word_limit → length new ≤ word_limit) → AreCounted new count
room_counted words new count are same few = record { few = few are.few; counted = same_counted (has_number words) (has_number new) count same are.counted }

-- a set bit has a word
has_word : (words : List ℕ) (k : ℕ) → has_number words k ≡ true → k < 64 * length words
has_word words k is = elim (cases_lt (k / 64) (length words)) [
  | inl inside ↦ omega (arith, inside, div-add-mod' k 64, small k)
  | inr past ↦
      let none : has_number words k ≡ false = ap (meets (bit_of (k % 64))) (get_or_past words (k / 64) 0 past) ∙ in-empty (k % 64) in
      let bad : false ≡ true = sym none ∙ is in
      cc
]

-- so there is one count
pub one_count : (words : List ℕ) (a b : ℕ) → IsCountOf (has_number words) a → IsCountOf (has_number words) b → a ≡ b
one_count words a b first second = sym (first (64 * length words) (has_word words)) ∙ second (64 * length words) (has_word words)

-- and it is small
pub few_set : (words : List ℕ) (count : ℕ) → AreCounted words count → count ≤ 4294967296
few_set words count are = omega (arith, few_counted (has_number words) (64 * length words) count are.counted (has_word words), are.few)

module _ (words roomy new : List ℕ) (number count : ℕ) (same : (k : ℕ) → has_number roomy k ≡ has_number words k) (also : HasAlso number roomy new) where
  -- one more in words that have its place
  pub more_set : HasAlso number words new
  more_set k = also k ∙ ap (λ b. k == number || b) (same k)

  pub more_counted : AreCounted words count → has_number words number ≡ false → (length words ≤ word_limit → length roomy ≤ word_limit) → length new ≡ length roomy → AreCounted new (count + 1)
  more_counted are absent few as_long = record {
    few = omega (arith, few are.few, as_long);
    counted = one_counted (has_number words) (has_number new) number count absent more_set are.counted;
  }
