-- the sum so far and that of what is left; and a bound
use Rattle.std.proofs.Common.{◌≡◌, ◌*◌, ◌^◌, drop}
use Rattle.std.specs.Prelude.{pos, ◌+ℤ◌, ◌≤ℤ◌}
use Rattle.blz_value.specs.Groups.{column_values, exact_sum}
use Rattle.blz_set.specs.Code.Entry.{rows_of}
use Rattle.blz_set.proofs.group.sum_of.Given as goal

abbrev pub invariant-loop-entry : goal.invariant-loop-entry
invariant-loop-entry l = record {
  total : l.sum +ℤ exact_sum (column_values l.column (rows_of (drop l.entry-index l.rows))) ≡ exact_sum (column_values l.column (rows_of l.rows));
  high : l.sum ≤ℤ pos (l.entry-index * 2 ^ 63);
  low : pos 0 ≤ℤ (l.sum +ℤ pos (l.entry-index * 2 ^ 63));
}
