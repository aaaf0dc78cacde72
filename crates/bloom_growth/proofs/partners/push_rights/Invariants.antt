-- the rows so far
use Rattle.std.proofs.Common.{◌≡◌, ◌++◌, map, take}
use Rattle.blz_value.specs.Operators.{joined}
use Rattle.bloom_growth.proofs.partners.push_rights.Given as goal

abbrev pub invariant-loop-right : goal.invariant-loop-right
invariant-loop-right l = l.rows.items ≡ l.initial.rows.items ++ map (joined l.pairs l.left) (take l.right-index l.rights)
