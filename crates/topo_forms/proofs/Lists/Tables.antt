-- Tables of the numbers below a count.
use Rattle.std.proofs.Common.{◌≡◌, ◌<◌, ◌≤◌, ◌+◌, inl, inr, ℕ, zero, suc, Bool, true, List, [], ◌∷◌, map, filter, length, get_or, refl, arith, subst}
use Rattle.std.specs.List.{enumerate_from, range_with_len}
use Rattle.std.proofs.lemmas.Bool.{cases_Bool}
use Rattle.blz_value.specs.Bits.{bit_of, meets}
use Rattle.bloom_forms.proofs.Collections.Chosen.{in_chosen, from_chosen}
use Rattle.blz_value.specs.NumberSets.{below, set_where}
use Rattle.blz_value.proofs.Booleans.{same_truth}
use Rattle.topo_forms.proofs.Regions.Spreading.{in_below}

placed_from : {X Y : Type 0} (f : ℕ → X) (g : ℕ × X → Y) (at n : ℕ) → map g (enumerate_from at (map f (range_with_len at n))) ≡ map (λ s. g (s, f s)) (range_with_len at n)
placed_from f g at zero = refl
placed_from f g at (suc n) = let more = placed_from f g (at + 1) n in λ i. g (at, f at) ∷ more i

-- each entry with its number
pub placed : {X Y : Type 0} (f : ℕ → X) (g : ℕ × X → Y) (n : ℕ) → map g (enumerate_from 0 (map f (range_with_len 0 n))) ≡ map (λ s. g (s, f s)) (range_with_len 0 n)
placed f g n = placed_from f g 0 n

numbered_from : {X Y : Type 0} (f : ℕ → Y) (at : ℕ) (xs : List X) → map (λ (p : ℕ × X). f p.0) (enumerate_from at xs) ≡ map f (range_with_len at (length xs))
numbered_from f at [] = refl
numbered_from f at (x ∷ xs) = let more = numbered_from f (at + 1) xs in λ i. f at ∷ more i

-- the numbers of the elements of a list are those below its length
pub numbered : {X Y : Type 0} (f : ℕ → Y) (xs : List X) → map (λ (p : ℕ × X). f p.0) (enumerate_from 0 xs) ≡ map f (range_with_len 0 (length xs))
numbered f xs = numbered_from f 0 xs

-- who is in the set of those that pass
pub where-is : (test : ℕ → Bool) (count k : ℕ) → count ≤ 64 → k < count → meets (bit_of k) (set_where test (below count)) ≡ test k
where-is test count k few lt = same_truth (meets (bit_of k) (set_where test (below count))) (test k)
    (λ h. let chosen = from_chosen test (λ n. n) (below count) k (omega arith) h in subst (λ (n : ℕ). test n ≡ true) chosen.is chosen.passes)
    (λ h. in_chosen test (λ n. n) (below count) k (in_below count k lt) h (omega arith))

shifted : {X : Type 0} (test : ℕ → Bool) (d : X) (x : X) (xs all : List X) (at n : ℕ) → ((k : ℕ) → get_or all (at + k) d ≡ get_or xs k d)
    → n ≡ length xs → map (λ (p : ℕ × X). p.1) (filter (λ p. test p.0) (enumerate_from at xs)) ≡ map (λ k. get_or all k d) (filter test (range_with_len at n))
shifted test d x [] all at zero same e = refl
shifted test d x [] all at (suc n) same e = absurd (omega (arith, e))
shifted test d x (y ∷ xs) all at zero same e = absurd (omega (arith, e))
shifted test d x (y ∷ xs) all at (suc n) same e =
    let more = shifted test d x xs all (at + 1) n (λ k. let one : at + 1 + k ≡ at + suc k = omega arith in rw one (same (suc k))) (omega (arith, e)) in
    let here : get_or all at d ≡ y = let z : at + 0 ≡ at = omega arith in subst (λ (m : ℕ). get_or all m d ≡ y) z (same 0) in
    elim (cases_Bool (test at)) [
      | inl t ↦ rw (t, here) (λ i. y ∷ more i)
      | inr f ↦ rw f more
    ]

-- the columns whose numbers pass, in their order
pub chosen_columns : {X : Type 0} (test : ℕ → Bool) (d : X) (xs : List X)
    → map (λ (p : ℕ × X). p.1) (filter (λ p. test p.0) (enumerate_from 0 xs)) ≡ map (λ k. get_or xs k d) (filter test (range_with_len 0 (length xs)))
chosen_columns test d xs = shifted test d d xs xs 0 (length xs) (λ k. let z : 0 + k ≡ k = omega arith in rw z refl) refl
