use Rattle.label_rules.proofs.Worst.{first_worst_law}
use Rattle.label_rules.proofs.laws.first_worst_law.Goals as goal

pub returns : goal.returns
returns c = first_worst_law
