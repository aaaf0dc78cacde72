-- what is left decides
use Rattle.std.proofs.Common.{◌≡◌, drop}
use Rattle.blz_value.specs.Record.{record_cmp}
use Rattle.blz_value.specs.Operators.{cells}
use Rattle.blz_set.proofs.entry.compare_cells.Given as goal

abbrev pub invariant-loop-i : goal.invariant-loop-i
invariant-loop-i l = record_cmp (cells l.a_columns l.a) (cells l.b_columns l.b) ≡ record_cmp (cells (drop l.i l.a_columns) l.a) (cells (drop l.i l.b_columns) l.b)
