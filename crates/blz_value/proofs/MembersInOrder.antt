-- A set lies in another exactly where each of its members does.
use Rattle.std.proofs.Common.{◌≡◌, ◌+◌, ◌≤◌, ◌<◌, ◌^◌, ℕ, zero, suc, true, inl, inr, arith}
use Rattle.std.specs.List.{range_with_len}
use Rattle.std.proofs.lemmas.Bool.{cases_lt}
use Rattle.std.proofs.lemmas.Nat.Bits.{bit_at_above}
use Rattle.blz_value.specs.Members.{Has}
use Rattle.blz_value.proofs.Membership.{Has-filter, Has-from_filter}
use Rattle.blz_value.specs.Bits.{bit_of, meets, members}
use Rattle.blz_value.specs.Closure.{within}
use Rattle.blz_value.proofs.Within.{set_one, within-bits}
use Rattle.blz_value.proofs.Members.{in-bit, bit-in, in-within, member_small}

-- ---- the numbers of a range

pub from_range : (from count n : ℕ) → Has n (range_with_len from count) → (from ≤ n) × (n < from + count)
from_range from zero n h = absurd h
from_range from (suc count) n (inl e) = (omega (arith, e), omega (arith, e))
from_range from (suc count) n (inr h) = let m = from_range (from + 1) count n h in (omega (arith, m.0), omega (arith, m.1))

pub in_range : (from count n : ℕ) → from ≤ n → n < from + count → Has n (range_with_len from count)
in_range from zero n low high = absurd (omega (arith, low, high))
in_range from (suc count) n low high = elim (cases_lt from n) [
  | inl lt ↦ inr (in_range (from + 1) count n (omega (arith, lt)) (omega (arith, high)))
  | inr not ↦ inl (omega (arith, low, not))
]

-- ---- members

pub from_members : (set n : ℕ) → Has n (members set) → (n < 64) × (meets (bit_of n) set ≡ true)
from_members set n h =
    let m = Has-from_filter (λ k. meets (bit_of k) set) n (range_with_len 0 64) h in
    let bounds = from_range 0 64 n m.0 in
    (omega (arith, bounds.1), m.1)

pub in_members : (set n : ℕ) → meets (bit_of n) set ≡ true → Has n (members set)
in_members set n h = Has-filter (λ k. meets (bit_of k) set) n (range_with_len 0 64) (in_range 0 64 n (omega arith) (let lt = member_small n set h in omega (arith, lt))) h

-- a set of 64 numbers lies in each set that has its members
pub within_by_members : (a b : ℕ) → a < 2 ^ 64 → ((n : ℕ) → Has n (members a) → meets (bit_of n) b ≡ true) → within a b ≡ true
within_by_members a b small each = within-bits a b (λ k set. elim (cases_lt k 64) [
  | inl lt ↦ in-bit k b lt (each k (in_members a k (bit-in k a lt set)))
  | inr past ↦ let zero_there = bit_at_above a 64 k small past in let one_there = set_one a k set in absurd (omega (arith, zero_there, one_there))
])

pub members_within : (a b : ℕ) → within a b ≡ true → (n : ℕ) → Has n (members a) → meets (bit_of n) b ≡ true
members_within a b inside n h = let m = from_members a n h in in-within n a b m.0 m.1 inside
