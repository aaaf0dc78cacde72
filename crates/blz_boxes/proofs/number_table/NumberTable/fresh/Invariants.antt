-- the records so far
use Rattle.std.proofs.Common.{◌≡◌, take, filter, not, is_some}
use Rattle.std.specs.BTreeMap.{get}
use Rattle.blz_value.specs.Record.{record_cmp}
use Rattle.blz_set.specs.References.{shown}
use Rattle.blz_boxes.proofs.number_table.NumberTable.fresh.Given as goal

abbrev pub invariant-loop-row : goal.invariant-loop-row
invariant-loop-row l = shown l.found.items ≡ filter (λ row. not (is_some (get record_cmp l.self.numbers row))) (take l.row-index l.rows)
