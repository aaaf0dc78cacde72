use Rattle.confluence.proofs.Labels.SealLaw.{seal_law}
use Rattle.confluence.proofs.laws.seal_law.Goals as goal

pub returns : goal.returns
returns c = seal_law
