use Rattle.std.proofs.Common.{◌≡◌, ◌++◌, drop}
use Rattle.topo_graph.specs.Code.Ports.{feeds_in}
use Rattle.topo_graph.proofs.ports.push_ends.Given as goal

abbrev pub invariant-loop-end : goal.invariant-loop-end
invariant-loop-end l = l.feeds.items ++ feeds_in (drop l.end-index l.ends) l.component l.stream ≡ l.initial.feeds.items ++ feeds_in l.ends l.component l.stream
