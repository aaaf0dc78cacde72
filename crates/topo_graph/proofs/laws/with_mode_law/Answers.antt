use Rattle.topo_graph.proofs.WithModeLaw.{with_mode_law}
use Rattle.topo_graph.proofs.laws.with_mode_law.Goals as goal

pub returns : goal.returns
returns c = with_mode_law
