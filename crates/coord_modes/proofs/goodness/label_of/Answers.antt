-- The label of a stream that has one.
use Rattle.std.proofs.Common.{sym}
use Rattle.std.proofs.lemmas.Option.{get_or_from_slice_get}
use Rattle.label_rules.specs.declared.label.Label.TheVariants.{Async}
use Rattle.coord_modes.proofs.goodness.label_of.Goals as goal

pub returns : goal.returns
returns c = sym (get_or_from_slice_get c.args.labels.now c.args.stream c.of.result Async c.of.ensures)
