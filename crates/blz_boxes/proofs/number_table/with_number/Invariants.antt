-- the values so far
use Rattle.std.proofs.Common.{◌≡◌, take}
use Rattle.blz_boxes.proofs.number_table.with_number.Given as goal

abbrev pub invariant-loop-value : goal.invariant-loop-value
invariant-loop-value l = l.values.items ≡ take l.value-index l.row
