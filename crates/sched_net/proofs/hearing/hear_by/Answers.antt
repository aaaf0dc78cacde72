use Rattle.inbox.specs.SetOffs.{set_off_read}
use Rattle.sched_net.proofs.HeardBatch.{ear_heard}
use Rattle.sched_net.proofs.hearing.hear_by.Goals as goal

pub returns-clause-hears : goal.returns-clause-hears
returns-clause-hears c =
    ear_heard c.args.pool.now c.args.pairs.now c.args.indexes.now (set_off_read c.args.pool.now c.in_ok-set.set) c.args.ear.now c.in-Hears.inbox c.hear_batch.new.self c.in-Hears.known c.know_all.new.known c.in-Hears.is
    (record { steps = c.in_ok-set.ensures.steps; whole = c.in_ok-set.ensures.whole; heard = c.in_ok-set.ensures.heard; feeds = c.in_ok-set.ensures.feeds; kept = c.in_ok-set.ensures.kept })
    c.in_ok-know_all.ensures
