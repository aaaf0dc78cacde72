use Rattle.topo_graph.proofs.OtherModes.{other_modes_law}
use Rattle.topo_graph.proofs.laws.other_modes_law.Goals as goal

pub returns : goal.returns
returns c = other_modes_law
