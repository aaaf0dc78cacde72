use Rattle.bloom_growth.proofs.BagsLemmas.{found_means}
use Rattle.bloom_growth.proofs.bag.Bag.contains.Goals as goal

pub returns : goal.returns
returns c = λ rows is. found_means rows c.args.self.now.counts is.counted c.args.row.now c.contains_key.result c.contains_key.ensures
