use Rattle.bloom_growth.proofs.SidesLemmas.{side_grown}
use Rattle.bloom_growth.proofs.side.Side.grow.Goals as goal

pub returns-clause-side : goal.returns-clause-side
returns-clause-side c = λ columns old new grows.
    side_grown columns old new c.args.fresh.now c.args.self.now c.add_all.new.self c.add_all.result grows c.add_all.ensures.side
