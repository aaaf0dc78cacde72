use Rattle.inbox.proofs.PutsRead.{arrived_is_set}
use Rattle.inbox.proofs.outlets.is_set.Goals as goal

pub returns-in-Arrived : goal.returns-in-Arrived
returns-in-Arrived c = arrived_is_set c.args.put.now _ c.in-Arrived.is
