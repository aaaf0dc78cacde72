-- Walks over the numbers below a count.
use Rattle.std.proofs.Common.{◌≡◌, ◌∙◌, ◌<◌, ◌+◌, ◌||◌, ℕ, Bool, false, [], ◌∷◌, refl, ap}
use Rattle.std.specs.List.{list_any, range_with_len}
use Rattle.std.proofs.lemmas.List.Folds.{list_any-append}
use Rattle.blz_value.proofs.Ranges.{below_more}

-- one more that doesn't pass
pub none_below : (p : ℕ → Bool) (n : ℕ) → list_any p (range_with_len 0 n) ≡ false → p n ≡ false → list_any p (range_with_len 0 (n + 1)) ≡ false
none_below p n e f = ap (list_any p) (below_more n) ∙ list_any-append p (range_with_len 0 n) (n ∷ []) ∙ both (list_any p (range_with_len 0 n)) (p n) e f
  where
    both : (a b : Bool) → a ≡ false → b ≡ false → (a || (b || false)) ≡ false
    both a b e f = rw (e, f) refl
