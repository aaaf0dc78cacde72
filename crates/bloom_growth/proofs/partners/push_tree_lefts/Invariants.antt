-- the rows so far, and those of the rest
use Rattle.std.proofs.Common.{◌≡◌, ◌++◌, map}
use Rattle.blz_value.specs.Operators.{joined}
use Rattle.bloom_growth.proofs.partners.push_tree_lefts.Given as goal

abbrev pub invariant-loop-left : goal.invariant-loop-left
invariant-loop-left l = l.rows.items ++ map (λ left. joined l.pairs left l.right) l.left-iterator ≡ l.initial.rows.items ++ map (λ left. joined l.pairs left l.right) l.lefts.keys
