use Rattle.confluence.proofs.Honest.HonestLaw as streams
use Rattle.confluence.proofs.laws.honest_law.Goals as goal

pub returns : goal.returns
returns c = streams.honest_law
