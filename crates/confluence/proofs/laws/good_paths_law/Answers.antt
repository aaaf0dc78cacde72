use Rattle.confluence.proofs.Labels.GoodPathsLaw.{good_of_async, good_of_run}
use Rattle.confluence.proofs.laws.good_paths_law.Goals as goal

pub returns-clause-seals : goal.returns-clause-seals
returns-clause-seals c = good_of_async

pub returns-clause-replicated : goal.returns-clause-replicated
returns-clause-replicated c = good_of_run
