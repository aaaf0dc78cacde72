-- The messages of all lists are counted stream by stream and sender by sender.
use Rattle.std.proofs.Common.{◌≡◌, ◌≤◌, ◌+◌, ℕ, zero, suc, List, [], ◌∷◌, length, take, refl, ap, ◌∙◌, sym, subst, arith}
use Rattle.std.specs.List.{sum_by}
use Rattle.std.proofs.lemmas.List.{take_all}
use Rattle.std.proofs.lemmas.List.Sums.{sum_by_more, sum_by-append}
use Rattle.blz_value.specs.NumberSets.{below}
use Rattle.messages.specs.Lists.{list_at, total}
use Rattle.inbox.specs.Places.{places_before}
use Rattle.inbox.proofs.PlacesLemmas.{below_more, before-more}

module _ {X : Type 0} (size : ℕ → ℕ) (lists : List (List X)) where
  -- the messages of a stream's lists
  abbrev of_one : ℕ → ℕ
  of_one s = sum_by (λ r. length (list_at lists (places_before size s + r))) (below (size s))

  -- the first so many lists of a stream, after those before it
  some_of_one : (s k : ℕ) → places_before size s + k ≤ length lists → total (take (places_before size s + k) lists) ≡ total (take (places_before size s) lists) + sum_by (λ r. length (list_at lists (places_before size s + r))) (below k)
  some_of_one s zero le = ap (λ n. total (take n lists)) (let e : places_before size s + 0 ≡ places_before size s = omega arith in e) ∙ (let e : total (take (places_before size s) lists) ≡ total (take (places_before size s) lists) + 0 = omega arith in e)
  some_of_one s (suc k) le =
      let at : ℕ = places_before size s + k in
      let more : total (take (at + 1) lists) ≡ total (take at lists) + length (list_at lists at) = sum_by_more length lists at [] (omega (arith, le)) in
      let before : total (take at lists) ≡ total (take (places_before size s) lists) + sum_by (λ r. length (list_at lists (places_before size s + r))) (below k) = some_of_one s k (omega (arith, le)) in
      let last : sum_by (λ r. length (list_at lists (places_before size s + r))) (below (k + 1)) ≡ sum_by (λ r. length (list_at lists (places_before size s + r))) (below k) + (0 + length (list_at lists at)) =
      ap (sum_by (λ r. length (list_at lists (places_before size s + r)))) (below_more k) ∙ sum_by-append (λ r. length (list_at lists (places_before size s + r))) (below k) (k ∷ []) in
      let next : k + 1 ≡ suc k = omega arith in
      let place : places_before size s + suc k ≡ at + 1 = omega arith in
      ap (λ n. total (take n lists)) place
      ∙ subst (λ n. total (take (at + 1) lists) ≡ total (take (places_before size s) lists) + sum_by (λ r. length (list_at lists (places_before size s + r))) (below n)) next (omega (arith, more, before, last))

  some_of_all : (n : ℕ) → places_before size n ≤ length lists → total (take (places_before size n) lists) ≡ sum_by of_one (below n)
  some_of_all zero le = refl
  some_of_all (suc n) le =
      let next : n + 1 ≡ suc n = omega arith in
      let more : places_before size (suc n) ≡ places_before size n + size n = ap (places_before size) (sym next) ∙ before-more size n in
      let one = some_of_one n (size n) (omega (arith, le, more)) in
      let before = some_of_all n (omega (arith, le, more)) in
      let last : sum_by of_one (below (n + 1)) ≡ sum_by of_one (below n) + (0 + of_one n) = ap (sum_by of_one) (below_more n) ∙ sum_by-append of_one (below n) (n ∷ []) in
      ap (λ m. total (take m lists)) more
      ∙ subst (λ m. total (take (places_before size n + size n) lists) ≡ sum_by of_one (below m)) next (omega (arith, one, before, last))

  pub all_of_all : (n : ℕ) → length lists ≡ places_before size n → total lists ≡ sum_by of_one (below n)
  all_of_all n many = ap total (sym (take_all (places_before size n) lists (omega (arith, many)))) ∙ some_of_all n (omega (arith, many))
