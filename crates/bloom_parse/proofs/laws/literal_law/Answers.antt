use Rattle.std.proofs.Common.{ℕ, List, [], ◌∷◌, ap, ◌∙◌, sym, append_assoc}
use Rattle.blz_value.specs.Text.{escaped}
use Rattle.bloom_parse.specs.Tokens.{front}
use Rattle.bloom_parse.proofs.Texts.LiteralLaw.{text_back}
use Rattle.bloom_parse.proofs.Texts.SpelledLemmas.{text_again}
use Rattle.bloom_parse.proofs.laws.literal_law.Goals as goal

pub returns : goal.returns
returns c = λ text t rest. (
  λ h. text_back text t rest h,
  λ h.
      ap (λ (xs : List ℕ). front (34 ∷ xs)) (h.0 ∙ sym (append_assoc (escaped t) (34 ∷ []) rest)) ∙ text_again t rest h.1 h.2,
)
