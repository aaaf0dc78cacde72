-- A turn of a loop that appends a text for each number below a count.
use Rattle.std.proofs.Common.{◌≡◌, ◌∙◌, ◌+◌, ◌++◌, ℕ, List, ap, sym}
use Rattle.std.specs.List.{flat_map}
use Rattle.std.proofs.lemmas.List.{flat_map_more}
use Rattle.blz_value.specs.NumberSets.{below}
use Rattle.blz_value.proofs.Ranges.{below_more}
use Rattle.report_lines.specs.Words.{Text}

pub one_more : (f : ℕ → Text) (n : ℕ) (old now next : Text) → next ≡ now ++ f n → now ≡ old ++ flat_map f (below n) → next ≡ old ++ flat_map f (below (n + 1))
one_more f n old now next more before =
    more ∙ ap (λ (text : Text). text ++ f n) before ∙ flat_map_more f old (below n) n ∙ ap (λ (numbers : List ℕ). old ++ flat_map f numbers) (sym (below_more n))
