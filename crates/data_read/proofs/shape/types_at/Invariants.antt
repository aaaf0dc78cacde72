use Rattle.std.proofs.Common.{◌≡◌, map, take}
use Rattle.data_read.specs.Shape.{type_at}
use Rattle.data_read.proofs.shape.types_at.Given as goal

abbrev pub invariant-loop-place : goal.invariant-loop-place
invariant-loop-place l = l.types.items ≡ map (type_at l.valid l.source) (take l.place-index l.places)
