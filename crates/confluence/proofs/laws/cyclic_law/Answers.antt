use Rattle.confluence.proofs.Labels.CyclicLaw.{inputs_of_async, inputs_of_run}
use Rattle.confluence.proofs.laws.cyclic_law.Goals as goal

pub returns-clause-seals : goal.returns-clause-seals
returns-clause-seals c = inputs_of_async

pub returns-clause-replicated : goal.returns-clause-replicated
returns-clause-replicated c = inputs_of_run
