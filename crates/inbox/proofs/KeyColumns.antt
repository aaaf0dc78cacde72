-- The place of an attribute among columns, found from the front.
use Rattle.std.proofs.Common.{◌≡◌, ◌<◌, ◌+◌, ℕ, zero, suc, true, false, cond, None, Some, [], ◌∷◌, length, get_or, refl, ap, ◌∙◌, arith}
use Rattle.std.specs.List.{position_from}
use Rattle.std.specs.Option.{unwrap_or}
use Rattle.bloom_forms.specs.Roots.{Roots, are_same}
use Rattle.topo_forms.specs.Data.{place_of_attribute}

module _ (a : ℕ) where
  found : (xs : Roots) (n off : ℕ) → n < length xs → ((k : ℕ) → k < n → are_same (get_or xs k None) (Some a) ≡ false) → are_same (get_or xs n None) (Some a) ≡ true → position_from (λ column. are_same column (Some a)) off xs ≡ Some (off + n)
  found [] n off below apart here = absurd (omega arith)
  found (x ∷ xs) zero off below apart here = ap (λ b. cond b (Some off) (position_from (λ column. are_same column (Some a)) (off + 1) xs)) here ∙ ap Some (omega arith)
  found (x ∷ xs) (suc n) off below apart here =
      ap (λ b. cond b (Some off) (position_from (λ column. are_same column (Some a)) (off + 1) xs)) (apart 0 (omega arith))
      ∙ found xs n (off + 1) (omega arith) (λ k less. apart (suc k) (omega arith)) here
      ∙ ap Some (let e : off + 1 + n ≡ off + suc n = omega arith in e)

  not_found : (xs : Roots) (off : ℕ) → ((k : ℕ) → k < length xs → are_same (get_or xs k None) (Some a) ≡ false) → position_from (λ column. are_same column (Some a)) off xs ≡ None
  not_found [] off apart = refl
  not_found (x ∷ xs) off apart =
      ap (λ b. cond b (Some off) (position_from (λ column. are_same column (Some a)) (off + 1) xs)) (apart 0 (let e : 0 < suc (length xs) = omega arith in e))
      ∙ not_found xs (off + 1) (λ k less. apart (suc k) (let e : suc k < suc (length xs) = omega arith in e))

  pub place_found : (xs : Roots) (n : ℕ) → n < length xs → ((k : ℕ) → k < n → are_same (get_or xs k None) (Some a) ≡ false) → are_same (get_or xs n None) (Some a) ≡ true → place_of_attribute xs a ≡ n
  place_found xs n below apart here = ap (λ o. unwrap_or o (length xs)) (found xs n 0 below apart here) ∙ (let e : 0 + n ≡ n = omega arith in e)

  pub place_missing : (xs : Roots) → ((k : ℕ) → k < length xs → are_same (get_or xs k None) (Some a) ≡ false) → place_of_attribute xs a ≡ length xs
  place_missing xs apart = ap (λ o. unwrap_or o (length xs)) (not_found xs 0 apart)
