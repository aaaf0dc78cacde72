-- Members of sets. The number n, below 64, is in the set s where `meets (bit_of n) s`.
use Rattle.std.proofs.Common.{◌≡◌, ◌≢◌, ◌<◌, ◌*◌, ◌^◌, ◌%◌, ℕ, nat_lt, nat_eq, not, ◌||◌, true, false, refl, rules, arith, ◌⊎◌, inl, inr, bit_and, bit_or, ◌∙◌, sym, subst}
use Rattle.std.specs.Int.{bit_at, IsBitSet}
use Rattle.std.proofs.Math.Bool.{or-false}
use Rattle.std.proofs.lemmas.Bool.{cases_Bool, cases_eq, false_from_ne_true, true≢false}
use Rattle.std.proofs.lemmas.Nat.{and_comm, and_le_l, and_le_r}
use Rattle.std.proofs.lemmas.Nat.Bits.{bit_at-lt, bit_at_and, bit_at_or, bit_at-zero, bit_at-pow_same, bit_at-pow_other, same_from_bits}
use Rattle.blz_value.specs.Bits.{bit_of, meets}
use Rattle.blz_value.specs.Closure.{within}
use Rattle.blz_value.proofs.Within.{set_one, one_set, bit_cases, some_bit, bits-within, within-bits, within-refl, within-trans, within-or_r}

-- sets with a number in common

meets-nonzero : (a b : ℕ) → meets a b ≡ true → bit_and a b ≢ 0
unfolding meets
meets-nonzero a b h = search rules

nonzero-meets : (a b : ℕ) → bit_and a b ≢ 0 → meets a b ≡ true
unfolding meets
nonzero-meets a b h = search rules

pub meets-some : (a b : ℕ) → meets a b ≡ true → (k : ℕ) × (IsBitSet a k × IsBitSet b k)
meets-some a b h =
    let found = some_bit (bit_and a b) (meets-nonzero a b h) in
    let both : bit_at (bit_and a b) found.0 ≡ 1 = set_one (bit_and a b) found.0 found.1 in
    let first : bit_at a found.0 ≡ 1 = omega (arith, bit_at_and a b found.0, bit_at-lt a found.0) in
    let second : bit_at b found.0 ≡ 1 = omega (arith, bit_at_and a b found.0, bit_at-lt b found.0) in
    (found.0, (one_set a found.0 first, one_set b found.0 second))

pub some-meets : (a b k : ℕ) → IsBitSet a k → IsBitSet b k → meets a b ≡ true
some-meets a b k first second = nonzero-meets a b (λ none.
    let zero_there : bit_at (bit_and a b) k ≡ 0 = rw none (bit_at-zero k) in
    absurd (omega (arith, bit_at_and a b k, set_one a k first, set_one b k second)))

-- sets of one number

pub bit_of-is : (n : ℕ) → n < 64 → bit_of n ≡ 2 ^ n
unfolding bit_of
bit_of-is n lt = let t : nat_lt n 64 ≡ true = search rules in rw t refl

-- no number from 64 on is in a set
pub bit_of-above : (n : ℕ) → nat_lt n 64 ≡ false → bit_of n ≡ 0
unfolding bit_of
bit_of-above n f = rw f refl

own_bit : (n : ℕ) → n < 64 → IsBitSet (bit_of n) n
own_bit n lt = rw (bit_of-is n lt) (one_set (2 ^ n) n (bit_at-pow_same n))

no_other_bit : (n k : ℕ) → n < 64 → IsBitSet (bit_of n) k → k ≡ n
no_other_bit n k lt set = elim (cases_eq k n) [
  | inl e ↦ e
  | inr other ↦ absurd (let one : bit_at (2 ^ n) k ≡ 1 = rw (bit_of-is n lt) at (set_one (bit_of n) k set) in omega (arith, bit_at-pow_other n k other))
]

-- a number is in a set exactly where its bit is 1

pub in-bit : (n s : ℕ) → n < 64 → meets (bit_of n) s ≡ true → IsBitSet s n
in-bit n s lt h =
    let found = meets-some (bit_of n) s h in
    subst (λ (k : ℕ). IsBitSet s k) (no_other_bit n found.0 lt found.1.0) found.1.1

pub bit-in : (n s : ℕ) → n < 64 → IsBitSet s n → meets (bit_of n) s ≡ true
bit-in n s lt set = some-meets (bit_of n) s n (own_bit n lt) set

-- the test of a bit
pub has-bit : (n s : ℕ) → n < 64 → not (nat_eq (bit_and s (1 * 2 ^ n % 2 ^ 64)) 0) ≡ meets (bit_of n) s
unfolding meets
has-bit n s lt = let shifted : 1 * 2 ^ n % 2 ^ 64 ≡ 2 ^ n = search rules in rw (shifted, bit_of-is n lt, and_comm s (2 ^ n)) refl

-- a number is in a set exactly where its own set is within that set

pub within-meets : (n s : ℕ) → n < 64 → within (bit_of n) s ≡ true → meets (bit_of n) s ≡ true
within-meets n s lt h = bit-in n s lt (bits-within (bit_of n) s h n (own_bit n lt))

pub meets-within : (n s : ℕ) → meets (bit_of n) s ≡ true → within (bit_of n) s ≡ true
meets-within n s h = elim (cases_Bool (nat_lt n 64)) [
  | inl t ↦ inside (search rules)
  | inr f ↦ absurd (meets-nonzero (bit_of n) s h (rw (bit_of-above n f) (omega (arith, and_le_l 0 s))))
]
  where
    inside : n < 64 → within (bit_of n) s ≡ true
    inside lt = within-bits (bit_of n) s (λ k set. subst (λ (m : ℕ). IsBitSet s m) (sym (no_other_bit n k lt set)) (in-bit n s lt h))

-- a number of a smaller set
pub in-within : (n a b : ℕ) → n < 64 → meets (bit_of n) a ≡ true → within a b ≡ true → meets (bit_of n) b ≡ true
in-within n a b lt h w = within-meets n b lt (within-trans (bit_of n) a b (meets-within n a h) w)

-- no number is in the empty set
pub in-empty : (n : ℕ) → meets (bit_of n) 0 ≡ false
unfolding meets
in-empty n = let none : bit_and (bit_of n) 0 ≡ 0 = omega (arith, and_le_r (bit_of n) 0) in rw none refl

-- who is in a union

in-zero : (n s : ℕ) → n < 64 → bit_at s n ≡ 0 → meets (bit_of n) s ≡ false
in-zero n s lt e = false_from_ne_true (meets (bit_of n) s) (λ h. omega (arith, e, set_one s n (in-bit n s lt h)))

in-one : (n s : ℕ) → n < 64 → bit_at s n ≡ 1 → meets (bit_of n) s ≡ true
in-one n s lt e = bit-in n s lt (one_set s n e)

pub in-or : (n a b : ℕ) → n < 64 → meets (bit_of n) (bit_or a b) ≡ (meets (bit_of n) a || meets (bit_of n) b)
in-or n a b lt = go (bit_cases a n) (bit_cases b n)
  where
    go : (bit_at a n ≡ 0) ⊎ (bit_at a n ≡ 1) → (bit_at b n ≡ 0) ⊎ (bit_at b n ≡ 1) → meets (bit_of n) (bit_or a b) ≡ (meets (bit_of n) a || meets (bit_of n) b)
    go (inl x) (inl y) = rw (in-zero n a lt x, in-zero n b lt y) (in-zero n (bit_or a b) lt (omega (arith, bit_at_or a b n)))
    go (inl x) (inr y) = rw (in-zero n a lt x, in-one n b lt y) (in-one n (bit_or a b) lt (omega (arith, bit_at_or a b n)))
    go (inr x) y = rw (in-one n a lt x) (in-one n (bit_or a b) lt (omega (arith, bit_at_or a b n, bit_at-lt b n)))

pub in-bit_same : (n s : ℕ) → n < 64 → meets (bit_of n) (bit_or s (bit_of n)) ≡ true
in-bit_same n s lt = within-meets n _ lt (within-or_r s (bit_of n))

pub in-bit_other : (n m s : ℕ) → n < 64 → m < 64 → n ≢ m → meets (bit_of n) (bit_or s (bit_of m)) ≡ meets (bit_of n) s
in-bit_other n m s lt lm other =
    let apart : meets (bit_of n) (bit_of m) ≡ false = false_from_ne_true (meets (bit_of n) (bit_of m)) (λ h. other (no_other_bit m n lm (in-bit n (bit_of m) lt h))) in
    in-or n s (bit_of m) lt ∙ rw apart (or-false (meets (bit_of n) s))

pub or-empty : (s : ℕ) → bit_or s 0 ≡ s
or-empty s = same_from_bits (bit_or s 0) s (λ k. omega (arith, bit_at_or s 0 k, bit_at-zero k))

-- a number is in the set of itself
pub own-in : (n : ℕ) → n < 64 → meets (bit_of n) (bit_of n) ≡ true
own-in n lt = within-meets n (bit_of n) lt (within-refl (bit_of n))

-- a number that is in a set is small
pub member_small : (n s : ℕ) → meets (bit_of n) s ≡ true → n < 64
member_small n s h = elim (cases_Bool (nat_lt n 64)) [
  | inl t ↦ search rules
  | inr f ↦ absurd (meets-nonzero (bit_of n) s h (rw (bit_of-above n f) (omega (arith, and_le_l 0 s))))
]

-- a set of one number has no other
pub one_number : (n m : ℕ) → n < 64 → meets (bit_of n) (bit_of m) ≡ true → m ≡ n
one_number n m lt h = elim (cases_Bool (nat_lt m 64)) [
  | inl t ↦ (let small : m < 64 = search rules in sym (no_other_bit m n small (in-bit n (bit_of m) lt h)))
  | inr f ↦ absurd (let nothing : meets (bit_of n) 0 ≡ true = rw (bit_of-above m f) at h in true≢false (sym nothing ∙ in-empty n))
]

-- a set meets all that a set in it meets
pub meets_more : (s a b : ℕ) → meets s a ≡ true → within a b ≡ true → meets s b ≡ true
meets_more s a b h inside = let m = meets-some s a h in some-meets s b m.0 m.1.0 (bits-within a b inside m.0 m.1.1)
