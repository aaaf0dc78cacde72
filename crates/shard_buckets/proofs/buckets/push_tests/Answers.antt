-- A turn moves the test of a bound from those that are left to those that are there.
use Rattle.std.proofs.Common.{◌≡◌, ℤ, pos, List, [], ◌∷◌, ◌++◌, map, ap, ◌∙◌, append_assoc, arith, get_or, drop, sym, length, ◌<◌, ◌+◌, drop-cons, add-one, ℕ, refl, rules}
use Rattle.std.proofs.lemmas.Grind.{common_steps}
use Rattle.std.proofs.lemmas.List.{map-append}
use Rattle.bloom_forms.specs.declared.expr.Pred.{Pred}
use Rattle.bloom_forms.specs.Form.{formula_of}
use Rattle.bloom_forms.specs.Query.{Formula, Name}
use Rattle.bloom_forms.specs.Shards.{buckets_from, from_bound, below_bound}
use Rattle.bloom_forms.specs.Query.Formula.{both}
use Rattle.shard_buckets.proofs.buckets.push_tests.Goals as goal

-- what is put behind other tests stands before those that are left
turned : (column : Name) (bound next : ℤ) (bounds : List ℤ) (i : ℕ) (old new : List Pred) (test : Pred) (all : List Formula) → i < length bounds → next ≡ get_or bounds i (pos 0) → new ≡ old ++ (test ∷ [])
    → formula_of test ≡ both (from_bound column bound) (below_bound column next) → map formula_of old ++ buckets_from column bound (drop i bounds) ≡ all → map formula_of new ++ buckets_from column next (drop (i + 1) bounds) ≡ all
turned column bound next bounds i old new test all below is put given before =
    let rest = buckets_from column next (drop (i + 1) bounds) in
    let first : drop i bounds ≡ (get_or bounds i (pos 0) ∷ drop (i + 1) bounds) = rw (drop-cons bounds i (pos 0), add-one) refl in
    ap (λ (l : List Pred). map formula_of l ++ rest) put
    ∙ ap (λ (l : List Formula). l ++ rest) (map-append formula_of old (test ∷ []))
    ∙ append_assoc (map formula_of old) (formula_of test ∷ []) rest
    ∙ ap (λ (f : Formula). map formula_of old ++ (f ∷ rest)) given
    ∙ ap (λ (n : ℤ). map formula_of old ++ buckets_from column bound (n ∷ drop (i + 1) bounds)) is
    ∙ ap (λ (l : List ℤ). map formula_of old ++ buckets_from column bound l) (sym first)
    ∙ before

pub loop-next-preserved : goal.loop-next-preserved
loop-next-preserved c =
    turned c.args.column.now _ _ c.args.bounds.now c.loop-next.next-index c.loop-next.tests.items c.push-in-loop-next.new.self.items c.in_ok-between.field-0 _ c.loop-next-test.true (search rules) c.in_ok-push-2.ensures.items c.in_ok-between.ensures c.loop-next.invariant

pub returns : goal.returns
returns c = grind (arith, common_steps)
