use Rattle.label_rules.proofs.Worst.{first_worst-is}
use Rattle.label_rules.proofs.reconciliation.reconcile.Goals as goal

pub returns-clause-rule : goal.returns-clause-rule
returns-clause-rule c = rw (c.worst_settled.ensures, c.is_protected.ensures) (first_worst-is _)
