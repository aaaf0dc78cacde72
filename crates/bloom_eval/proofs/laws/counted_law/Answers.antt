use Rattle.bloom_eval.proofs.CountedSame.{counts_same}
use Rattle.bloom_eval.proofs.laws.counted_law.Goals as goal

pub returns : goal.returns
returns c = counts_same
