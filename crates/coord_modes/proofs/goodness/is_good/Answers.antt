-- There is one labelling.
use Rattle.std.proofs.Common.{◌∙◌}
use Rattle.coord_modes.proofs.GoodLemmas.{good_by}
use Rattle.coord_modes.proofs.goodness.is_good.Goals as goal

pub returns : goal.returns
returns c = c.are_good.ensures ∙ good_by c.args.valid.now.view c.known.ensures c.args.component c.args.labels.now c.requires

pub are_good-requires : goal.are_good-requires
are_good-requires c = let labels = c.requires in labels.each
