use Rattle.std.proofs.Common.{◌∙◌}
use Rattle.bloom_growth.proofs.BagsLemmas.{count_is}
use Rattle.bloom_growth.proofs.bag.Bag.len.Goals as goal

pub returns : goal.returns
returns c = λ rows is. c.len.ensures.len ∙ count_is rows c.args.self.now.counts is.counted c.len.ensures.ordered
