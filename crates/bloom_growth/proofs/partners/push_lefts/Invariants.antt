-- the rows so far
use Rattle.std.proofs.Common.{◌≡◌, ◌++◌, map, take}
use Rattle.blz_value.specs.Operators.{joined}
use Rattle.bloom_growth.proofs.partners.push_lefts.Given as goal

abbrev pub invariant-loop-left : goal.invariant-loop-left
invariant-loop-left l = l.rows.items ≡ l.initial.rows.items ++ map (λ left. joined l.pairs left l.right) (take l.left-index l.lefts)
