use Rattle.topo_read.proofs.ReadBack.{read_back}
use Rattle.topo_read.proofs.laws.read_back_law.Goals as goal

pub returns : goal.returns
returns c = read_back
