use Rattle.label_rules.proofs.MonotoneLaw.{monotone_in_given, monotone_in_read}
use Rattle.label_rules.proofs.laws.monotone_law.Goals as goal

pub returns-clause-given : goal.returns-clause-given
returns-clause-given c = monotone_in_given

pub returns-clause-read : goal.returns-clause-read
returns-clause-read c = monotone_in_read
