-- the labels after the regions so far
use Rattle.std.proofs.Common.{◌≡◌, fold, take}
use Rattle.topo_forms.specs.Regions.{regions}
use Rattle.label_walk.specs.Labels.{first_labels, with_region}
use Rattle.label_walk.proofs.region_walk.labels.Given as goal

abbrev pub invariant-loop-region : goal.invariant-loop-region
invariant-loop-region l = l.labels.items ≡ fold (with_region l.valid.view) (first_labels l.valid.view) (take l.region (regions l.valid.view))
