-- Whatever labels the rules allow decide whether a component is good, and whether a cyclic region wants an order.
use Rattle.std.proofs.Common.{◌≡◌, ℕ, not, List, ap}
use Rattle.std.specs.List.{list_all}
use Rattle.topo_forms.specs.Valid.{IsValid}
use Rattle.topo_forms.specs.View.{View, streams_from}
use Rattle.label_rules.specs.declared.label.Label.{Label}
use Rattle.label_walk.specs.Labels.{AreLabels, labels_of}
use Rattle.label_walk.specs.Paths.{label_at}
use Rattle.label_walk.proofs.Labelling.OneLabelling.{has_one_labelling}
use Rattle.label_walk.proofs.Labelling.RegionByRegion.{has_labels}
use Rattle.coord_modes.specs.Plan.{is_bad, is_good}

pub labels_are : (v : View) → IsValid v → (labels : List Label) → AreLabels v labels → labels ≡ labels_of v
labels_are v valid labels are = has_one_labelling v labels (labels_of v) valid are (has_labels v valid)

pub good_by : (v : View) → IsValid v → (c : ℕ) (labels : List Label) → AreLabels v labels → list_all (λ s. not (is_bad (label_at labels s))) (streams_from v c) ≡ is_good v c
good_by v valid c labels are = ap (λ (ls : List Label). list_all (λ s. not (is_bad (label_at ls s))) (streams_from v c)) (labels_are v valid labels are)
