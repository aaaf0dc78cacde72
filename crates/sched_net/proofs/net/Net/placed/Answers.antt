use Rattle.std.proofs.Common.{subst}
use Rattle.sched_net.specs.Reading.{AreEmitted}
use Rattle.sched_net.specs.Net.{execution_in}
use Rattle.sched_net.proofs.net.Net.placed.Goals as goal

pub returns-clause-records : goal.returns-clause-records
returns-clause-records g c given steps stand = subst (AreEmitted c.args.self.now.valid.now.view given (execution_in stand)) c.pool.ensures.kept (c.pool.ensures.records given steps stand)
