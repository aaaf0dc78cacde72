-- the values so far, and those that are left
use Rattle.std.proofs.Common.{◌≡◌, ◌++◌, drop}
use Rattle.blz_value.specs.Operators.{unpaired}
use Rattle.blz_set.proofs.Joins.{unpaired_from}
use Rattle.bloom_growth.proofs.partners.push_unpaired.Given as goal

abbrev pub invariant-loop-column : goal.invariant-loop-column
invariant-loop-column l = l.values.items ++ unpaired_from l.pairs l.column (drop l.column l.value-items) ≡ l.initial.values.items ++ unpaired l.pairs l.value-items
