-- the records so far
use Rattle.std.proofs.Common.{◌≡◌, ◌++◌, map}
use Rattle.blz_boxes.specs.Code.Numbers.{with_number}
use Rattle.blz_boxes.proofs.number_table.NumberTable.rows.Given as goal

abbrev pub invariant-loop-row : goal.invariant-loop-row
invariant-loop-row l = l.rows.items ++ map (λ entry. with_number entry.0 entry.1) l.row-iterator ≡ map (λ entry. with_number entry.0 entry.1) l.self.numbers.entries
