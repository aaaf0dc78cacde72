-- the rows so far, and those of the rest
use Rattle.std.proofs.Common.{◌≡◌, ◌++◌, map}
use Rattle.blz_value.specs.Operators.{joined}
use Rattle.bloom_growth.proofs.partners.push_tree_rights.Given as goal

abbrev pub invariant-loop-right : goal.invariant-loop-right
invariant-loop-right l = l.rows.items ++ map (joined l.pairs l.left) l.right-iterator ≡ l.initial.rows.items ++ map (joined l.pairs l.left) l.rights.keys
