-- the labels of the streams so far
use Rattle.std.proofs.Common.{◌≡◌, map}
use Rattle.blz_value.specs.NumberSets.{below}
use Rattle.topo_forms.specs.View.{origin_of}
use Rattle.label_walk.specs.Labels.{first_label}
use Rattle.label_walk.proofs.region_walk.first_labels.Given as goal

abbrev pub invariant-loop-stream : goal.invariant-loop-stream
invariant-loop-stream l = l.labels.items ≡ map (λ s. first_label l.valid.view s (origin_of l.valid.view s)) (below l.stream)
