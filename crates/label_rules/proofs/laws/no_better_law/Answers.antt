use Rattle.label_rules.proofs.NoBetterLaw.{no_better_than_given, no_better_than_read}
use Rattle.label_rules.proofs.laws.no_better_law.Goals as goal

pub returns-clause-given : goal.returns-clause-given
returns-clause-given c = no_better_than_given

pub returns-clause-read : goal.returns-clause-read
returns-clause-read c = no_better_than_read
