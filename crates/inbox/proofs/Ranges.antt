-- Lists over the numbers below a count, by one more number.
use Rattle.std.proofs.Common.{◌≡◌, ◌<◌, sym, inl, inr, true, false, ℕ, Bool, ◌∙◌}
use Rattle.std.specs.List.{range_with_len, list_any, list_all}
use Rattle.std.proofs.lemmas.Bool.{cases_Bool}
use Rattle.blz_value.proofs.Membership.{Has-from_any, all_from, all_member}
use Rattle.std.proofs.lemmas.Grind.{common_steps}
use Rattle.blz_value.proofs.Ranges.{map_below_more, filter_below_more, flat_below_more, is_below, Has-from_below}

-- a step of a loop over the numbers below a count
pub ruleset below_steps = (common_steps, map_below_more, filter_below_more, flat_below_more)

-- ---- a test of the numbers below a count

pub none_below : (p : ℕ → Bool) (n : ℕ) → ((k : ℕ) → k < n → p k ≡ false) → list_any p (range_with_len 0 n) ≡ false
none_below p n none = elim (cases_Bool (list_any p (range_with_len 0 n))) [
  | inl t ↦ (let m = Has-from_any p (range_with_len 0 n) t in let f = none m.0 (Has-from_below n m.0 m.1) in let bad : true ≡ false = sym m.2 ∙ f in cc)
  | inr f ↦ f
]

pub all_below : (p : ℕ → Bool) (n : ℕ) → ((k : ℕ) → k < n → p k ≡ true) → list_all p (range_with_len 0 n) ≡ true
all_below p n all = all_from p (range_with_len 0 n) (λ k h. all k (Has-from_below n k h))

pub not_all_below : (p : ℕ → Bool) (n k : ℕ) → k < n → p k ≡ false → list_all p (range_with_len 0 n) ≡ false
not_all_below p n k less e = elim (cases_Bool (list_all p (range_with_len 0 n))) [
  | inl t ↦ (let here = all_member p (range_with_len 0 n) k t (is_below n k less) in let bad : true ≡ false = sym here ∙ e in cc)
  | inr f ↦ f
]
