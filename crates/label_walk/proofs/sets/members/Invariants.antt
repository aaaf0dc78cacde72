-- the members so far
use Rattle.std.proofs.Common.{◌≡◌, filter}
use Rattle.blz_value.specs.Graph.{is_in}
use Rattle.blz_value.specs.NumberSets.{below}
use Rattle.label_walk.proofs.sets.members.Given as goal

abbrev pub invariant-loop-number : goal.invariant-loop-number
invariant-loop-number l = l.members.items ≡ filter (λ n. is_in n l.set.bits) (below l.number)
