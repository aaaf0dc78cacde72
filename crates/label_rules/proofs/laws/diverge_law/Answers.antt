use Rattle.label_rules.proofs.NoBetterLaw.{diverges_at_outputs}
use Rattle.label_rules.proofs.laws.diverge_law.Goals as goal

pub returns-clause-output : goal.returns-clause-output
returns-clause-output c = diverges_at_outputs
