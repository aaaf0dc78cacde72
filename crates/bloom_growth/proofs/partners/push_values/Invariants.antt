-- the values so far
use Rattle.std.proofs.Common.{◌≡◌, ◌++◌, take}
use Rattle.bloom_growth.proofs.partners.push_values.Given as goal

abbrev pub invariant-loop-value : goal.invariant-loop-value
invariant-loop-value l = l.values.items ≡ l.initial.values.items ++ take l.value-index l.value-items
