use Rattle.serde_json.specs.View.{view}
use Rattle.data_read.proofs.WeightLemmas.{lists_within}
use Rattle.data_read.proofs.entries.entry_of.Goals as goal

pub returns-clause-small : goal.returns-clause-small
returns-clause-small c = lists_within c.args.is_sealed (view c.args.value.now) c.entry_in.result c.entry_in.ensures
