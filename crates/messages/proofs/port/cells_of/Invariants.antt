-- the values so far
use Rattle.std.proofs.Common.{◌≡◌, take}
use Rattle.blz_value.specs.Operators.{cells}
use Rattle.messages.proofs.port.cells_of.Given as goal

abbrev pub invariant-loop-column : goal.invariant-loop-column
invariant-loop-column l = l.values.items ≡ cells (take l.column-index l.columns) l.row
