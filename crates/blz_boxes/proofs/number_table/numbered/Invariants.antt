-- the records so far
use Rattle.std.proofs.Common.{◌≡◌, take}
use Rattle.blz_set.specs.References.{shown}
use Rattle.blz_boxes.specs.Code.Numbers.{numbered_from}
use Rattle.blz_boxes.proofs.number_table.numbered.Given as goal

abbrev pub invariant-loop-i : goal.invariant-loop-i
invariant-loop-i l = l.made.items ≡ numbered_from l.first (shown (take l.i l.rows))
