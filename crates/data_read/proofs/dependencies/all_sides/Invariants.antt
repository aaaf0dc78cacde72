use Rattle.std.proofs.Common.{◌≡◌, map, take}
use Rattle.std.specs.List.{flat_map}
use Rattle.data_read.specs.Code.Earliest.{placed_sides, sides_view}
use Rattle.data_read.proofs.dependencies.all_sides.Given as goal

abbrev pub invariant-loop-source : goal.invariant-loop-source
invariant-loop-source l = map sides_view l.all.items ≡ flat_map placed_sides (take l.source-index l.placed)
