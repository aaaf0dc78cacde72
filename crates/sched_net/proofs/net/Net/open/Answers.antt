use Rattle.sched_net.specs.Bench.{instance_components}
use Rattle.sched_net.proofs.FirstBooks.{bodies_there, net_stands, kinds_stay}
use Rattle.sched_net.proofs.net.Net.open.Goals as goal

pub returns-clause-stands : goal.returns-clause-stands
returns-clause-stands g c = net_stands c.args.valid.now.view c.args.given c.in_ok-books.books _ _ c.in_ok-books.ensures (bodies_there c.args.valid.now.view _ c.known.ensures c.in_ok-shells.ensures.answer) c.in_ok-shells.ensures.loaded c.in_ok-shells.ensures.kept

pub returns-clause-kinds : goal.returns-clause-kinds
returns-clause-kinds g c = kinds_stay _ _ (instance_components c.args.valid.now.view) c.args.bench.now.items c.open_shells.new.bench.items c.in_ok-shells.shells.items c.in_ok-shells.ensures.left c.in_ok-shells.ensures.kinds
