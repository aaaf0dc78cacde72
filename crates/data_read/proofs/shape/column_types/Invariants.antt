use Rattle.std.proofs.Common.{◌≡◌, map}
use Rattle.blz_value.specs.NumberSets.{below}
use Rattle.data_read.specs.Shape.{type_at}
use Rattle.data_read.proofs.shape.column_types.Given as goal

abbrev pub invariant-loop-place : goal.invariant-loop-place
invariant-loop-place l = l.types.items ≡ map (type_at l.valid l.source) (below l.place)
