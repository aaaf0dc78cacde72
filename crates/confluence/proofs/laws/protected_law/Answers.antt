use Rattle.inbox.proofs.Dependencies.JointLaw.{closure_law}
use Rattle.confluence.proofs.Labels.ProtectedLaw.{protected_guarded}
use Rattle.confluence.proofs.laws.protected_law.Goals as goal

pub returns-clause-guarded : goal.returns-clause-guarded
returns-clause-guarded c = protected_guarded

pub returns-clause-columns : goal.returns-clause-columns
returns-clause-columns c = closure_law
