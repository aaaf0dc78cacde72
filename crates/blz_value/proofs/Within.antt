-- Sets in sets.
use Rattle.std.proofs.Common.{◌≡◌, ◌≢◌, ◌≤◌, ◌<◌, ◌*◌, ◌^◌, ◌/◌, ◌%◌, ℕ, zero, suc, true, refl, rules, arith, eq-eqb, ◌⊎◌, inl, inr, bit_and, bit_or, ap, ◌∙◌, sym}
use Rattle.std.specs.Int.{bit_at, IsBitSet}
use Rattle.std.specs.Int.Bits.{and_self}
use Rattle.std.proofs.lemmas.Nat.{and_assoc, and_comm, and_le_r, pow_pos}
use Rattle.std.proofs.lemmas.Nat.Bits.{and_pow, bit_at-lt, bit_at-suc, bit_at_lowest, bit_at-zero, bit_at_and, bit_at_or, same_from_bits}
use Rattle.blz_value.specs.Closure.{within}

-- a bit of a set

pub set_one : (s k : ℕ) → IsBitSet s k → bit_at s k ≡ 1
set_one s k set = go (bit_at s k) (bit_at-lt s k) refl
  where
    go : (b : ℕ) → b < 2 → bit_at s k ≡ b → bit_at s k ≡ 1
    go zero lt e = absurd (set (and_pow s k ∙ rw e (omega arith)))
    go (suc zero) lt e = e
    go (suc (suc b)) lt e = absurd (omega arith)

pub one_set : (s k : ℕ) → bit_at s k ≡ 1 → IsBitSet s k
one_set s k one none =
    let power : 1 * 2 ^ k ≡ 0 = rw one at (sym (and_pow s k) ∙ none) in
    let above : 0 < 2 ^ k = pow_pos k in
    absurd (omega arith)

pub bit_cases : (s k : ℕ) → (bit_at s k ≡ 0) ⊎ (bit_at s k ≡ 1)
bit_cases s k = go (bit_at s k) (bit_at-lt s k)
  where
    go : (b : ℕ) → b < 2 → (b ≡ 0) ⊎ (b ≡ 1)
    go zero lt = inl refl
    go (suc zero) lt = inr refl
    go (suc (suc b)) lt = absurd (omega arith)

-- a set that isn't empty has a member

some_bit_by : (most s : ℕ) → s ≤ most → s ≢ 0 → (k : ℕ) × (bit_at s k ≡ 1)
some_bit_by zero s le some = absurd (some (omega arith))
some_bit_by (suc most) s le some = elim (bit_cases s 0) [
  | inr one ↦ (0, one)
  | inl none ↦
      let even : s % 2 ≡ 0 = sym (bit_at_lowest s) ∙ none in
      let later = some_bit_by most (s / 2) (omega arith) (λ e. some (omega arith)) in
      (suc later.0, bit_at-suc s later.0 ∙ later.1)
]

pub some_bit : (s : ℕ) → s ≢ 0 → (k : ℕ) × IsBitSet s k
some_bit s some = let found = some_bit_by s s (omega arith) some in (found.0, one_set s found.0 found.1)

-- each bit of a is in b

abbrev Below : ℕ → ℕ → Type 0
Below a b = (k : ℕ) → bit_at a k ≤ bit_at b k

-- a set is within another exactly where it is all that both have
pub within-common : (a b : ℕ) → within a b ≡ true → bit_and a b ≡ a
unfolding within
within-common a b h = search rules

pub common-within : (a b : ℕ) → bit_and a b ≡ a → within a b ≡ true
unfolding within
common-within a b e = eq-eqb _ _ e

below-within : (a b : ℕ) → within a b ≡ true → Below a b
below-within a b h k =
    let bits : bit_at (bit_and a b) k ≡ bit_at a k = ap (λ n. bit_at n k) (within-common a b h) in
    omega (arith, bit_at_and a b k)

within-below : (a b : ℕ) → Below a b → within a b ≡ true
unfolding within
within-below a b below = eq-eqb _ _ (same_from_bits (bit_and a b) a (λ k. omega (arith, below k, bit_at_and a b k)))

pub bits-within : (a b : ℕ) → within a b ≡ true → (k : ℕ) → IsBitSet a k → IsBitSet b k
bits-within a b h k set = one_set b k (omega (arith, set_one a k set, below-within a b h k, bit_at-lt b k))

pub within-bits : (a b : ℕ) → ((k : ℕ) → IsBitSet a k → IsBitSet b k) → within a b ≡ true
within-bits a b each = within-below a b (λ k. go k (bit_cases a k))
  where
    go : (k : ℕ) → (bit_at a k ≡ 0) ⊎ (bit_at a k ≡ 1) → bit_at a k ≤ bit_at b k
    go k (inl none) = omega arith
    go k (inr one) = omega (arith, set_one b k (each k (one_set a k one)))

-- the order of sets

pub within-refl : (a : ℕ) → within a a ≡ true
within-refl a = within-below a a (λ k. omega arith)

pub within-trans : (a b c : ℕ) → within a b ≡ true → within b c ≡ true → within a c ≡ true
within-trans a b c p q = within-below a c (λ k. omega (arith, below-within a b p k, below-within b c q k))

-- a set within another is at most that one as a number
pub within-le : (a b : ℕ) → within a b ≡ true → a ≤ b
within-le a b h = omega (arith, within-common a b h, and_le_r a b)

pub within-antisym : (a b : ℕ) → within a b ≡ true → within b a ≡ true → a ≡ b
within-antisym a b p q = omega (arith, within-le a b p, within-le b a q)

pub within-empty : (a : ℕ) → within 0 a ≡ true
within-empty a = within-below 0 a (λ k. omega (arith, bit_at-zero k))

-- unions

pub within-or_l : (a b : ℕ) → within a (bit_or a b) ≡ true
within-or_l a b = within-below a (bit_or a b) (λ k. omega (arith, bit_at_or a b k))

pub within-or_r : (a b : ℕ) → within b (bit_or a b) ≡ true
within-or_r a b = within-below b (bit_or a b) (λ k. omega (arith, bit_at_or a b k))

pub or-within : (a b c : ℕ) → within a c ≡ true → within b c ≡ true → within (bit_or a b) c ≡ true
or-within a b c p q = within-below (bit_or a b) c (λ k. omega (arith, bit_at_or a b k, below-within a c p k, below-within b c q k))

-- what is in already adds nothing
pub or-absorbs : (a b : ℕ) → within b a ≡ true → bit_or a b ≡ a
or-absorbs a b p = same_from_bits (bit_or a b) a (λ k. omega (arith, bit_at_or a b k, below-within b a p k))

-- what both have

pub and-within_l : (a b : ℕ) → within (bit_and a b) a ≡ true
and-within_l a b = common-within _ a (and_comm (bit_and a b) a ∙ sym (and_assoc b a a) ∙ ap (λ n. bit_and n b) (and_self a))

pub and-within_r : (a b : ℕ) → within (bit_and a b) b ≡ true
and-within_r a b = common-within _ b (and_assoc b a b ∙ ap (λ n. bit_and a n) (and_self b))

pub within-and : (a b c : ℕ) → within c a ≡ true → within c b ≡ true → within c (bit_and a b) ≡ true
within-and a b c p q = common-within c _ (sym (and_assoc b c a) ∙ ap (λ n. bit_and n b) (within-common c a p) ∙ within-common c b q)
