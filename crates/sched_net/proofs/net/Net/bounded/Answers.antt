use Rattle.sched_net.proofs.LeftSeen.{few_ports}
use Rattle.sched_net.proofs.net.Net.bounded.Goals as goal

pub returns-clause-ports : goal.returns-clause-ports
returns-clause-ports g c = few_ports c.args.self.now.valid.now c.whole.ensures
