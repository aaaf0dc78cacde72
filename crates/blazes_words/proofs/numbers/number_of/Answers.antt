use Rattle.std.proofs.Common.{◌∙◌, ◌≡◌, true, rules}
use Rattle.blazes_words.specs.Numbers.{is_decimal}
use Rattle.blazes_words.proofs.NumbersLemmas.{number_parsed}
use Rattle.blazes_words.proofs.numbers.number_of.Goals as goal

pub returns : goal.returns
returns c =
    let digits : is_decimal c.args.most c.args.word.now ≡ true = search rules in
    c.ok.ensures.value ∙ number_parsed c.args.most c.args.word.now c.parse.result c.parse.ensures.value.0 digits
