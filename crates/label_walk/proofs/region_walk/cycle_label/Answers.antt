-- The label is that of the region.
use Rattle.std.proofs.Common.{◌≡◌, true, rules}
use Rattle.topo_forms.specs.Regions.{is_cyclic}
use Rattle.label_walk.proofs.Labelling.RemadeLemmas.{cycle_is_some}
use Rattle.label_walk.proofs.region_walk.cycle_label.Goals as goal

pub returns : goal.returns
returns c =
    let cyclic : is_cyclic c.args.valid.now.view c.args.region ≡ true = search rules in
    cycle_is_some c.args.valid.now.view c.args.labels.now c.args.region _ cyclic c.in_ok-region_label.ensures
