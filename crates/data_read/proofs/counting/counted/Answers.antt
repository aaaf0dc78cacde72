use Rattle.std.proofs.Common.{◌∙◌, ap, sym}
use Rattle.data_read.specs.Counting.{few}
use Rattle.data_read.proofs.CountingLemmas.{few_counted}
use Rattle.data_read.proofs.counting.counted.Goals as goal

pub returns-in-None-clause-few : goal.returns-in-None-clause-few
returns-in-None-clause-few c = few_counted c.args.valid.now.view c.args.sources.now (ap (few c.args.valid.now.view) (sym c.passed_at.ensures.place ∙ c.in-None.is))
