use Rattle.blazes_words.specs.Requests.{line_shown}
use Rattle.blazes_words.proofs.WordsLemmas.{nothing_asked}
use Rattle.blazes_words.proofs.words.request_for.Goals as goal

pub returns-in_default-clause-value : goal.returns-in_default-clause-value
returns-in_default-clause-value c =
    nothing_asked (line_shown c.args.line.now) c.in_default.not-label c.in_default.not-derive c.in_default.not-plan c.in_default.not-run c.in_default.not-make c.in_default.not-soak
    c.in_default.not-shard c.in_default.not-restart c.in_default.not-witness c.in_default.not-why
