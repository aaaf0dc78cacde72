-- the rows so far that the other lacks
use Rattle.std.proofs.Common.{◌≡◌, take}
use Rattle.blz_set.specs.Missing.{missing_from}
use Rattle.bloom_growth.proofs.turn.less.Given as goal

abbrev pub invariant-loop-row : goal.invariant-loop-row
invariant-loop-row l = l.left.items ≡ missing_from l.other (take l.row-index l.row-items)
