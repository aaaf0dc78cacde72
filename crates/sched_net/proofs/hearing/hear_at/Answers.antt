use Rattle.inbox.specs.SetOffs.{set_off_read}
use Rattle.sched_net.proofs.HeardBatch.{heard_there}
use Rattle.sched_net.proofs.hearing.hear_at.Goals as goal

pub returns-clause-hears : goal.returns-clause-hears
returns-clause-hears c =
    heard_there c.args.pool.now c.args.pairs.now c.args.indexes.now c.hear_by.result (set_off_read c.args.pool.now) c.args.place c.args.seats.now.items c.index_mut.result.now c.hear_by.new.ear c.requires.place c.index_mut.ensures.value
    c.hear_by.ensures.hears
