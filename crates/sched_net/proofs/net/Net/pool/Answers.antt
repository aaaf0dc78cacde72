use Rattle.std.proofs.Common.{sym, subst}
use Rattle.sched_net.proofs.EmittedSeen.{seen_records}
use Rattle.sched_net.specs.Reading.{AreEmitted}
use Rattle.sched_net.specs.Net.{execution_in}
use Rattle.sched_net.proofs.net.Net.pool.Goals as goal

pub returns-clause-records : goal.returns-clause-records
returns-clause-records g c given steps stand =
    subst (AreEmitted c.args.self.now.valid.now.view given (execution_in stand)) (sym c.pool.ensures)
    (seen_records c.args.self.now.valid.now.view given steps c.args.self.now.books stand c.known.ensures c.known-2.ensures.given c.known-2.ensures.pool)
