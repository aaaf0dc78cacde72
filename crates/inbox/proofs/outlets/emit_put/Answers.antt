use Rattle.inbox.proofs.PutsRead.{becomes_none}
use Rattle.inbox.proofs.outlets.emit_put.Goals as goal

pub returns-in-None-clause-ok : goal.returns-in-None-clause-ok
returns-in-None-clause-ok c = becomes_none c.args.lists.now c.args.outlet.now.place c.args.puts.now c.args.outlet.now.output c.in-None.ensures
