use Rattle.std.proofs.Common.{◌≡◌, drop}
use Rattle.blz_value.specs.Arrows.{with_all}
use Rattle.topo_graph.specs.Code.Ports.{set_of_port, sets_into}
use Rattle.topo_graph.proofs.ports.set_of_port.Given as goal

abbrev pub invariant-loop-feed : goal.invariant-loop-feed
invariant-loop-feed l = with_all l.set (sets_into (drop l.feed-index l.feeds) l.port) ≡ set_of_port l.feeds l.port
