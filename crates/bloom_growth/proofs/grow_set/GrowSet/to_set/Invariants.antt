-- the rows so far
use Rattle.std.proofs.Common.{◌≡◌, take}
use Rattle.bloom_growth.proofs.grow_set.GrowSet.to_set.Given as goal

abbrev pub invariant-loop-row : goal.invariant-loop-row
invariant-loop-row l = l.rows.items ≡ take l.row-index l.row-items
