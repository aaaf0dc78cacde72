-- Columns that are chosen by their numbers.
use Rattle.std.proofs.Common.{◌≡◌, ◌<◌, ◌+◌, ℕ, zero, suc, not, nat_eq, Bool, true, false, inl, inr, List, [], ◌∷◌, map, filter, length, get_or, refl, arith, ap, subst}
use Rattle.std.specs.List.{enumerate_from, list_any, range_with_len, remove}
use Rattle.std.proofs.lemmas.Bool.{cases_Bool}
use Rattle.std.proofs.lemmas.Bool.Decides.{nat_tests}
use Rattle.bloom_forms.specs.Program.{key_columns}
use Rattle.bloom_forms.specs.Query.{Name}
use Rattle.topo_forms.proofs.Lists.Tables.{chosen_columns}
use Rattle.topo_types.specs.Code.Chosen.{with_keys}

other_number : (a b : ℕ) → b < a → nat_eq a b ≡ false
other_number a b lt = grind (arith, nat_tests)

same_number : (a : ℕ) → nat_eq a (a + 0) ≡ true
same_number a = grind (arith, nat_tests)

-- after a number all are kept
all_later : {X : Type 0} (at n : ℕ) (xs : List X) → n < at → map (λ (p : ℕ × X). p.1) (filter (λ p. not (nat_eq p.0 n)) (enumerate_from at xs)) ≡ xs
all_later at n [] lt = refl
all_later at n (x ∷ xs) lt = let more = all_later (at + 1) n xs (omega (arith, lt)) in rw (other_number at n lt) (λ i. x ∷ more i)

kept_from : {X : Type 0} (at n : ℕ) (xs : List X) → map (λ (p : ℕ × X). p.1) (filter (λ p. not (nat_eq p.0 (at + n))) (enumerate_from at xs)) ≡ remove xs n
kept_from at zero [] = refl
kept_from at (suc n) [] = refl
kept_from at zero (x ∷ xs) = let more = all_later (at + 1) (at + 0) xs (omega arith) in rw (same_number at) more
kept_from {X} at (suc n) (x ∷ xs) =
    let one : at + 1 + n ≡ at + suc n = omega arith in
    let more = subst (λ (m : ℕ). map (λ (p : ℕ × X). p.1) (filter (λ p. not (nat_eq p.0 m)) (enumerate_from (at + 1) xs)) ≡ remove xs n) one (kept_from (at + 1) n xs) in
    let other : nat_eq at (at + suc n) ≡ false = grind (arith, nat_tests) in
    rw other (ap (λ (ys : List X). x ∷ ys) more)

-- the columns but for one
pub without : {X : Type 0} (n : ℕ) (xs : List X) → map (λ (p : ℕ × X). p.1) (filter (λ p. not (nat_eq p.0 n)) (enumerate_from 0 xs)) ≡ remove xs n
without n xs = let z : 0 + n ≡ n = omega arith in subst (λ (m : ℕ). map (λ (p : ℕ × _). p.1) (filter (λ p. not (nat_eq p.0 m)) (enumerate_from 0 xs)) ≡ remove xs n) z (kept_from 0 n xs)

-- the key columns
pub key_names : (columns : List Name) (keys : List ℕ) → with_keys keys columns ≡ key_columns columns keys
key_names columns keys = chosen_columns (λ column. list_any (λ key. nat_eq key column) keys) [] columns
