-- The region with the component's number is the component's.
use Rattle.std.proofs.Common.{sym, ◌∙◌}
use Rattle.label_walk.proofs.Labelling.RegionNumbers.{is_cycle_of, no_cycle}
use Rattle.label_walk.proofs.cycles.cycle_of.Goals as goal

pub returns-then-is_cyclic : goal.returns-then-is_cyclic
returns-then-is_cyclic c = is_cycle_of c.args.valid.now.view c.known.ensures c.args.component c.requires c.region-region.result c.region-region.ensures (sym c.is_cyclic.ensures ∙ c.if-is_cyclic.true)

pub returns-else-is_cyclic : goal.returns-else-is_cyclic
returns-else-is_cyclic c = no_cycle c.args.valid.now.view c.known.ensures c.args.component c.requires c.region-region.result c.region-region.ensures (sym c.is_cyclic.ensures ∙ c.if-is_cyclic.false)
