-- the labels of the streams so far
use Rattle.std.proofs.Common.{◌≡◌, map}
use Rattle.blz_value.specs.NumberSets.{below}
use Rattle.topo_forms.specs.View.{origin_of}
use Rattle.label_walk.specs.Code.Remade.{remade_label}
use Rattle.label_walk.proofs.region_walk.remade_labels.Given as goal

abbrev pub invariant-loop-stream : goal.invariant-loop-stream
invariant-loop-stream l = l.remade.items ≡ map (λ s. remade_label l.valid.view l.labels l.set.bits l.cycle s (origin_of l.valid.view s)) (below l.stream)
