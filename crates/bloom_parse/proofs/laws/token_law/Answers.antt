use Rattle.bloom_parse.proofs.Texts.TokensLemmas.{one_list}
use Rattle.bloom_parse.proofs.laws.token_law.Goals as goal

pub returns : goal.returns
returns c = λ text ks ls ts us rest more a b. one_list _ _ ks ls ts us rest more a b
