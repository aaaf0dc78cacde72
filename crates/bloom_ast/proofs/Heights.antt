-- Levels, comparisons and heights.
use Rattle.std.proofs.Common.{◌≡◌, ◌≤◌, ◌<◌, ◌+◌, ◌-◌, ◌&&◌, inl, inr, ℕ, suc, max, Bool, true, false, nat_le, nat_lt, arith, ◌∙◌, sym}
use Rattle.std.specs.List.{list_any}
use Rattle.std.proofs.lemmas.Bool.{cases_Bool}
use Rattle.std.proofs.lemmas.List.Folds.{list_any-append}
use Rattle.std.proofs.lemmas.Grind.{common_steps}
use Rattle.blz_value.proofs.Booleans.{neither}
use Rattle.bloom_forms.specs.Bounds.{within, levels, comparisons, is_either, is_joined, formula_height, height, query_levels, formulas_of, is_long, passes_bounds}
use Rattle.bloom_forms.specs.Query.{Formula, Query}
use Rattle.bloom_forms.specs.Query.Formula.{compare, both, either, not_so}
use Rattle.bloom_forms.specs.Query.Query.{base, select, project, join, notin, group, at_least}

-- a bound, one level down

pub lower : (n room : ℕ) → nat_le (suc n) room ≡ (nat_lt 0 room && nat_le n (room - 1))
lower n room = grind (arith, common_steps)

pub lower_both : (m n room : ℕ) → nat_le (suc (max m n)) room ≡ (nat_lt 0 room && (nat_le m (room - 1) && nat_le n (room - 1)))
lower_both m n room = grind (arith, common_steps)

-- a tree is no deeper than its levels and comparisons say

within-le : (b : Bool) (n : ℕ) → n ≤ within b n
within-le true n = omega arith
within-le false n = omega arith

comparisons-some : (f : Formula) → 0 < comparisons f
comparisons-some (compare l o r) = omega arith
comparisons-some (both a b) = omega (arith, comparisons-some a)
comparisons-some (either a b) = omega (arith, comparisons-some a)
comparisons-some (not_so a) = comparisons-some a

formula-height : (f : Formula) → formula_height f ≤ levels f + comparisons f
formula-height (compare l o r) = omega arith
formula-height (both a b) = omega (arith, formula-height a, formula-height b, comparisons-some a, comparisons-some b, within-le (is_either a) (levels a), within-le (is_joined b) (levels b))
formula-height (either a b) = omega (arith, formula-height a, formula-height b, comparisons-some a, comparisons-some b, within-le (is_either b) (levels b))
formula-height (not_so a) = omega (arith, formula-height a, within-le (is_joined a) (levels a))

short : (f : Formula) → is_long f ≡ false → comparisons f ≤ 32
short f e = grind (arith, common_steps)

query-height : (q : Query) → list_any is_long (formulas_of q) ≡ false → height q ≤ query_levels q + 32
query-height (base name) e = omega arith
query-height (select q f) e =
    let parts = neither (is_long f) (list_any is_long (formulas_of q)) e in
    omega (arith, query-height q parts.1, formula-height f, short f parts.0)
query-height (project q items) e = omega (arith, query-height q e)
query-height (join a b pairs) e =
    let parts = neither (list_any is_long (formulas_of a)) (list_any is_long (formulas_of b)) (sym (list_any-append is_long (formulas_of a) (formulas_of b)) ∙ e) in
    omega (arith, query-height a parts.0, query-height b parts.1)
query-height (notin a b pairs) e =
    let parts = neither (list_any is_long (formulas_of a)) (list_any is_long (formulas_of b)) (sym (list_any-append is_long (formulas_of a) (formulas_of b)) ∙ e) in
    omega (arith, query-height a parts.0, query-height b parts.1)
query-height (group q keys agg name) e = omega (arith, query-height q e)
query-height (at_least q keys bound) e = omega (arith, query-height q e)

-- a tree that is deeper than 64 passes the bounds
pub deep : (q : Query) → nat_le (height q) 64 ≡ false → passes_bounds q ≡ true
deep q e = elim (cases_Bool (list_any is_long (formulas_of q))) [
  | inl long ↦ grind (arith, common_steps, long)
  | inr fine ↦ let low : height q ≤ query_levels q + 32 = query-height q fine in grind (arith, common_steps, low, e)
]
