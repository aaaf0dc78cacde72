-- the values so far
use Rattle.std.proofs.Common.{◌≡◌, take}
use Rattle.bloom_growth.proofs.columns.copies.Given as goal

abbrev pub invariant-loop-other : goal.invariant-loop-other
invariant-loop-other l = l.values.items ≡ take l.other-index l.other-items
