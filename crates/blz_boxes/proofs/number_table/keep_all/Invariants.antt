-- what is kept after the records so far
use Rattle.std.proofs.Common.{◌≤◌, ◌+◌, take}
use Rattle.std.specs.BTreeMap.{btree_map_len}
use Rattle.blz_set.specs.References.{shown}
use Rattle.blz_boxes.proofs.NumberRows.{StandsFor}
use Rattle.blz_boxes.proofs.number_table.keep_all.Given as goal

abbrev pub invariant-loop-i : goal.invariant-loop-i
invariant-loop-i l = StandsFor l.fn.numbers l.first (shown (take l.i l.rows)) l.numbers × (btree_map_len l.numbers ≤ btree_map_len l.fn.numbers + l.i)
