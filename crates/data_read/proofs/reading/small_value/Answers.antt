use Rattle.data_read.proofs.MakingLemmas.{small_value}
use Rattle.data_read.proofs.reading.small_value.Goals as goal

pub returns-clause-small : goal.returns-clause-small
returns-clause-small c = small_value c.args.text.now c.value_of.result c.requires c.value_of.ensures
