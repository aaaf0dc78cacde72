use Rattle.std.proofs.Common.{◌≡◌, ◌∙◌, ◌∷◌, ℕ, ℤ, ◌+ℤ◌, FitsSigned, sym, ap, subst, arith, rules}
use Rattle.std.proofs.lemmas.Int.{to_z-of_z}
use Rattle.std.specs.Int.{saturate_signed, w64, w128}
use Rattle.blz_value.specs.Groups.{summand}
use Rattle.blz_value.specs.Test.{cell}
use Rattle.bloom_growth.specs.declared.tally.Kept.{Kept}
use Rattle.bloom_growth.specs.declared.tally.Kept.TheVariants.{Sum}
use Rattle.bloom_growth.specs.Code.Aggregates.{column_of}
use Rattle.bloom_growth.specs.Tallies.{IsKept}
use Rattle.bloom_growth.proofs.TalliesLemmas.{sum_more}
use Rattle.bloom_growth.proofs.tally.Kept.put.Goals as goal

pub returns-in-Sum : goal.returns-in-Sum
returns-in-Sum c = λ rows few kept.
    let agg = c.args.agg in
    let row = c.args.row.now in
    let sum = c.in-Sum.sum in
    let number = c.summand_at.result in
    let next = c.saturating_add.result in
    let fits : FitsSigned w64 number = search rules in
    let whole : FitsSigned w128 next = search rules in
    let is : number ≡ summand (cell row (column_of agg)) = c.summand_at.ensures ∙ ap (λ (n : ℕ). summand (cell row n)) c.column_of-column.ensures in
    let made : next ≡ saturate_signed w128 (sum +ℤ number) = grind (arith, to_z-of_z, c.saturating_add.ensures, c.from.ensures) in
    subst (λ (z : ℤ). IsKept agg (row ∷ rows) (Sum z)) (sym (to_z-of_z w128 next whole)) (sum_more rows row agg sum number next is fits made few (subst (λ (k : Kept). IsKept agg rows k) c.in-Sum.is kept))
