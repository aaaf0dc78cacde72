-- What an aggregate has come to with one row more and with one row less.
use Rattle.std.proofs.Common.{◌≡◌, ℕ, ◌*◌, ◌^◌, ◌<◌, List, [], ◌∷◌, length, Some, is_some, Result, Ok, Err, IfOk, refl, ap, ◌∙◌, sym, subst, inl, inr, arith}
use Rattle.std.proofs.lemmas.Int.{ints}
use Rattle.std.specs.Prelude.{ℤ, pos, negsuc, ◌+ℤ◌, ◌-ℤ◌, ◌≤ℤ◌}
use Rattle.std.specs.BTreeMap.{BTreeMap, get, IsLowerBound, IsUpperBound}
use Rattle.std.specs.Int.{saturate_signed, w64, w128}
use Rattle.std.specs.Int.RustNames.{FitsSigned}
use Rattle.blz_value.specs.declared.aggregate.Agg.{Agg}
use Rattle.blz_value.specs.declared.aggregate.Agg.TheVariants as by
use Rattle.blz_value.specs.declared.value.Value.{Value}
use Rattle.blz_value.specs.Groups.{column_values, exact_sum, summand, least, greatest}
use Rattle.blz_value.specs.Record.{Row}
use Rattle.blz_value.specs.Test.{cell}
use Rattle.blz_value.specs.Value.{value_cmp}
use Rattle.blz_value.specs.ValueOrder.{value_cmp_total, value_cmp_exact}
use Rattle.blz_set.specs.RecordSet.{row_limit}
use Rattle.bloom_growth.specs.declared.tally.Kept.TheVariants.{Sum}
use Rattle.bloom_growth.specs.Tallies.{AreNumbers, IsKept}
use Rattle.bloom_growth.specs.Code.Aggregates.{column_of}
use Rattle.bloom_growth.specs.Counts.{AreCounted}
use Rattle.bloom_growth.proofs.CountsLemmas.{found_has, has_found, none_given, no_entries}
use Rattle.bloom_growth.proofs.AggregateLemmas.{least_is, greatest_is}

-- ---- numbers that fit

saturated : (z : ℤ) → z ≤ℤ pos (2 ^ 100) → pos 0 ≤ℤ (z +ℤ pos (2 ^ 100)) → saturate_signed w128 z ≡ z
saturated (pos n) high low = ap pos (omega (arith, ints, high))
saturated (negsuc n) high low = ap negsuc (omega (arith, ints, low))

-- a sum of so many numbers
sum_high : (column : ℕ) (rows : List Row) → AreNumbers column rows → exact_sum (column_values column rows) ≤ℤ pos (length rows * 2 ^ 63)
sum_high column [] are = omega (arith, ints)
sum_high column (row ∷ rows) are =
    let fits = are row (inl refl) in
    let more = sum_high column rows (λ q h. are q (inr h)) in
    omega (arith, ints, fits, more)

sum_low : (column : ℕ) (rows : List Row) → AreNumbers column rows → pos 0 ≤ℤ (exact_sum (column_values column rows) +ℤ pos (length rows * 2 ^ 63))
sum_low column [] are = omega (arith, ints)
sum_low column (row ∷ rows) are =
    let fits = are row (inl refl) in
    let more = sum_low column rows (λ q h. are q (inr h)) in
    omega (arith, ints, fits, more)

module _ (rows : List Row) (row : Row) where
  pub sum_more : (agg : Agg) (sum number next : ℤ) → number ≡ summand (cell row (column_of agg)) → FitsSigned w64 number → next ≡ saturate_signed w128 (sum +ℤ number) → length rows < row_limit
      → IsKept agg rows (Sum sum) → IsKept agg (row ∷ rows) (Sum next)
  sum_more by.Count sum number next is fits e few h = absurd h
  sum_more (by.Sum column) sum number next is fits e few h =
      let total = exact_sum (column_values column rows) in
      let high = sum_high column rows h.1 in
      let low = sum_low column rows h.1 in
      let made : next ≡ sum +ℤ number = e ∙ saturated (sum +ℤ number) (omega (arith, ints, fits, high, h.0, few)) (omega (arith, ints, fits, low, h.0, few)) in (
        omega (arith, ints, made, is, h.0),
        λ q m. elim m [
          | inl at ↦ subst (λ (r : Row). FitsSigned w64 (summand (cell r column))) at (subst (λ (n : ℤ). FitsSigned w64 n) is fits)
          | inr old ↦ h.1 q old
        ],
      )
  sum_more (by.Min column) sum number next is fits e few h = absurd h
  sum_more (by.Max column) sum number next is fits e few h = absurd h

  pub sum_less : (agg : Agg) (sum number next : ℤ) → number ≡ summand (cell row (column_of agg)) → FitsSigned w64 number → next ≡ saturate_signed w128 (sum -ℤ number) → length rows < row_limit
      → IsKept agg (row ∷ rows) (Sum sum) → IsKept agg rows (Sum next)
  sum_less by.Count sum number next is fits e few h = absurd h
  sum_less (by.Sum column) sum number next is fits e few h =
      let high = sum_high column rows (λ q m. h.1 q (inr m)) in
      let low = sum_low column rows (λ q m. h.1 q (inr m)) in
      let rest : sum -ℤ number ≡ exact_sum (column_values column rows) = omega (arith, ints, is, h.0) in
      let made : next ≡ sum -ℤ number = e ∙ saturated (sum -ℤ number) (omega (arith, ints, rest, high, few)) (omega (arith, ints, rest, low, few)) in
      (made ∙ rest, λ q m. h.1 q (inr m))
  sum_less (by.Min column) sum number next is fits e few h = absurd h
  sum_less (by.Max column) sum number next is fits e few h = absurd h

-- ---- a value of some

-- what holds of a value holds of a copy
pub on_copy : {E : Type 0} (r : Result Value E) (P : Value → Type 0) (value : Value) → IfOk r (λ copy. copy ≡ value) → P value → IfOk r P
on_copy (Ok copy) P value same p = subst P (sym same) p
on_copy (Err e) P value same p = tt

module _ (values : List Value) (counts : BTreeMap Value ℕ) (are : AreCounted value_cmp values counts) where
  -- the first key is the least value, and the last one the greatest
  pub first_least : (value : Value) (n : ℕ) → get value_cmp counts value ≡ Some n → IsLowerBound value_cmp counts value → value ≡ least values
  first_least value n found least =
      least_is values value (found_has value_cmp_total value_cmp_exact values counts are value (ap is_some found)) (λ q h. least q (has_found value_cmp_total value_cmp_exact values counts are q h))

  pub last_greatest : (value : Value) (n : ℕ) → get value_cmp counts value ≡ Some n → IsUpperBound value_cmp counts value → value ≡ greatest values
  last_greatest value n found greatest =
      greatest_is values value (found_has value_cmp_total value_cmp_exact values counts are value (ap is_some found)) (λ q h. greatest q (has_found value_cmp_total value_cmp_exact values counts are q h))

  -- without keys there are no values
  pub no_values : (0 < length counts.entries → ⊥) → values ≡ []
  no_values none = none_given value_cmp_total value_cmp_exact values counts are (no_entries counts.entries none)
