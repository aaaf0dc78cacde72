-- the rows so far, and the rest
use Rattle.std.proofs.Common.{◌≡◌, ◌++◌}
use Rattle.bloom_growth.proofs.row_tree.push_copies.Given as goal

abbrev pub invariant-loop-row : goal.invariant-loop-row
invariant-loop-row l = l.rows.items ++ l.row-iterator ≡ l.initial.rows.items ++ l.more.keys
