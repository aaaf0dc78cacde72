use Rattle.std.proofs.Common.{◌≡◌, ◌++◌, map, take}
use Rattle.data_read.specs.Code.Earliest.{sides_at, sides_view}
use Rattle.data_read.proofs.dependencies.push_sides.Given as goal

abbrev pub invariant-loop-row : goal.invariant-loop-row
invariant-loop-row l = map sides_view l.all.items ≡ map sides_view l.initial.all.items ++ map (sides_at l.source.from.items l.source.to.items) (take l.row-index l.source.rows.now)
