use Rattle.bloom_growth.proofs.TurnedGroups.{turned_stand}
use Rattle.bloom_growth.proofs.TurningLemmas.{ok_on}
use Rattle.bloom_growth.proofs.turning_groups.TurningGroups.go_on.Goals as goal

pub returns : goal.returns
returns c = ok_on c.put_all.result c.put_all.ensures.tallied (λ came keys agg old new g.
    turned_stand keys agg old new c.args.part.more.now c.args.part.gone.now c.args.self.now c.take_all.new.self c.put_all.new.self g c.take_all.ensures.keys c.take_all.ensures.agg c.put_all.ensures.keys c.put_all.ensures.agg c.in_ok-take_all.ensures.tallied came)
