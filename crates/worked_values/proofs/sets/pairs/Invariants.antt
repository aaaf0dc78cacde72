-- the rows so far have two values
use Rattle.std.proofs.Common.{◌≡◌, All, List, length}
use Rattle.blz_value.specs.Record.{Row}
use Rattle.worked_values.proofs.sets.pairs.Given as goal

abbrev pub invariant-loop-number : goal.invariant-loop-number
invariant-loop-number l = All (λ (row : Row). length row ≡ 2) l.rows.items
