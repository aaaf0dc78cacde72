-- one empty set for each table so far
use Rattle.std.proofs.Common.{◌≡◌, take}
use Rattle.blz_boxes.proofs.Tables.{empties}
use Rattle.blz_boxes.proofs.plain.empty_tables.Given as goal

abbrev pub invariant-loop-collection : goal.invariant-loop-collection
invariant-loop-collection l = l.sets.items ≡ empties (take l.collection-index l.collections)
