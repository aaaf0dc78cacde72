-- The label of a region, worse than Async or not.
use Rattle.std.specs.Prelude.{ℕ, Bool}
use Rattle.topo_forms.specs.View.{View}
use Rattle.label_walk.specs.Labels.{labels_of, region_label}
use Rattle.coord_modes.specs.Plan.{is_bad}

abbrev pub is_bad_region : View → (set : ℕ) → Bool
is_bad_region v set = is_bad (region_label v (labels_of v) set)
