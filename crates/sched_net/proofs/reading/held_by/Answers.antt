use Rattle.sched_net.proofs.HeldSeen.{held_of}
use Rattle.sched_net.proofs.reading.held_by.Goals as goal

pub returns-in-Hears : goal.returns-in-Hears
returns-in-Hears c = held_of c.args.ear.now c.in-Hears.inbox c.in-Hears.field-1 c.held.result c.in-Hears.is c.held.ensures
