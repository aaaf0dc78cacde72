use Rattle.std.proofs.Common.{◌≡◌, ◌++◌}
use Rattle.topo_forms.specs.Messages.{distinct_rows}
use Rattle.data_read.proofs.distinct.distinct_rows.Given as goal

-- those so far and those left are all
abbrev pub invariant-loop-row : goal.invariant-loop-row
invariant-loop-row l = l.distinct.items ++ l.row-iterator ≡ distinct_rows l.fn.rows.items
