use Rattle.std.proofs.Common.{arith}
use Rattle.sched_net.proofs.Found.{no_port_there}
use Rattle.sched_net.proofs.numbered.port_of.Goals as goal

pub returns-then-component-component_count : goal.returns-then-component-component_count
returns-then-component-component_count c = no_port_there c.args.valid.now.view c.args.component c.args.name.now (omega (arith, c.if-component-component_count.true, c.component_count.ensures))
