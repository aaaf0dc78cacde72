-- the values so far
use Rattle.std.proofs.Common.{◌≡◌, take}
use Rattle.std.specs.List.{remove}
use Rattle.blz_boxes.proofs.words.other_values.Given as goal

abbrev pub invariant-loop-column : goal.invariant-loop-column
invariant-loop-column l = l.values.items ≡ remove (take l.column l.row) l.split
