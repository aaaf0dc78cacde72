use Rattle.std.proofs.Common.{◌≡◌, map}
use Rattle.blz_value.specs.NumberSets.{below}
use Rattle.data_read.specs.Shape.{shape_of}
use Rattle.data_read.proofs.shape.shapes_of.Given as goal

abbrev pub invariant-loop-source : goal.invariant-loop-source
invariant-loop-source l = l.shapes.items ≡ map (shape_of l.valid) (below l.source)
