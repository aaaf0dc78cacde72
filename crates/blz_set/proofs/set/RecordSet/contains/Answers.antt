use Rattle.std.proofs.Common.{◌∙◌}
use Rattle.blz_set.proofs.RecordSets.{has_row_means}
use Rattle.blz_set.proofs.set.RecordSet.contains.Goals as goal

pub returns : goal.returns
returns c = has_row_means c.args.self.now c.args.row.now c.is_ok.result (c.is_ok.ensures.value ∙ c.place.ensures.test)
