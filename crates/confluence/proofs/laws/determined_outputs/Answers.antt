use Rattle.confluence.proofs.Regions.Induction as induction
use Rattle.confluence.proofs.laws.determined_outputs.Goals as goal

pub returns : goal.returns
returns c = induction.determined_outputs
