use Rattle.bloom_forms.proofs.Ends.OverTables.{steps_same}
use Rattle.bloom_forms.proofs.laws.order_law.Goals as goal

pub returns : goal.returns
returns c = steps_same
