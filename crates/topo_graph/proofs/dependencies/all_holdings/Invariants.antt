use Rattle.std.proofs.Common.{◌≡◌, map, take}
use Rattle.topo_graph.specs.Code.Lines.{holding_by}
use Rattle.topo_graph.proofs.dependencies.all_holdings.Given as goal

abbrev pub invariant-loop-fd : goal.invariant-loop-fd
invariant-loop-fd l = l.held.items ≡ map (holding_by l.lines l.into) (take l.fd-index l.fds)
