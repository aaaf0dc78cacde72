use Rattle.bloom_growth.proofs.TurningLemmas.{ok_on}
use Rattle.bloom_growth.proofs.TurnedGroups.{turn_as}
use Rattle.bloom_growth.proofs.turning_groups.TurningGroups.turn.Goals as goal

pub returns-in-Some-clause-stand : goal.returns-in-Some-clause-stand
returns-in-Some-clause-stand c = ok_on c.turn_one.result c.turn_one.ensures.stand (λ stands keys agg old new g.
    stands keys agg old new (turn_as keys agg old new c.args.part.more.now c.args.part.gone.now _ _ c.args.self.now c.in-Some.ensures.more c.in-Some.ensures.gone g))

pub returns-in-Some-clause-rows : goal.returns-in-Some-clause-rows
returns-in-Some-clause-rows c = λ keys agg old new g.
    c.turn_one.ensures.rows keys agg old new (turn_as keys agg old new c.args.part.more.now c.args.part.gone.now _ _ c.args.self.now c.in-Some.ensures.more c.in-Some.ensures.gone g)
