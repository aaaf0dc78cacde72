use Rattle.data_read.proofs.MakingLemmas.{are_data, are_held}
use Rattle.data_read.proofs.making.data_from.Goals as goal

pub returns-clause-fits : goal.returns-clause-fits
returns-clause-fits c = are_data c.args.valid.now.view c.args.sources.items c.made_of.result c.requires c.made_of.ensures

pub returns-clause-holds : goal.returns-clause-holds
returns-clause-holds c = are_held c.args.valid.now.view c.args.sources.items c.made_of.result c.requires c.made_of.ensures
