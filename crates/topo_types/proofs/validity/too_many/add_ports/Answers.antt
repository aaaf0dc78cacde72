use Rattle.std.proofs.Common.{rules}
use Rattle.topo_types.proofs.Columns.Growing.{full_at_port}
use Rattle.topo_types.proofs.validity.too_many.add_ports.Goals as goal

pub returns-then-not-branch-clause-fit : goal.returns-then-not-branch-clause-fit
returns-then-not-branch-clause-fit c =
    full_at_port _ _ _ _ _ c.loop-port.invariant.0 c.loop-port-test.true c.port-item.is (search rules)
