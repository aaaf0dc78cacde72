-- the inputs from the streams so far
use Rattle.std.proofs.Common.{◌≡◌, filter, map}
use Rattle.std.specs.List.{flat_map}
use Rattle.blz_value.specs.NumberSets.{below}
use Rattle.topo_forms.specs.View.{End}
use Rattle.label_walk.specs.Paths.{ends_in, is_from_outside}
use Rattle.label_walk.proofs.cycles.set_inputs.Given as goal

abbrev pub invariant-loop-stream : goal.invariant-loop-stream
invariant-loop-stream l = l.inputs.items ≡ flat_map (λ s. map (λ (end : End). (s, end)) (ends_in l.valid.view l.set.bits s)) (filter (is_from_outside l.valid.view l.set.bits) (below l.stream))
