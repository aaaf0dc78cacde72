use Rattle.serde_json.specs.View.{view}
use Rattle.data_read.proofs.MakingLemmas.{forms_fit}
use Rattle.data_read.proofs.reading.wide_sources.Goals as goal

pub returns-clause-fits : goal.returns-clause-fits
returns-clause-fits c = forms_fit c.args.valid.now (view c.args.top.now) c.sources_of.result c.sources_of.ensures
