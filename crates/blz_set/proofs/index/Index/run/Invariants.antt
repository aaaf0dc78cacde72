-- those so far have the key
use Rattle.std.proofs.Common.{◌≡◌, true}
use Rattle.std.specs.List.{AllWithin}
use Rattle.blz_set.specs.declared.entry.Entry.{Entry}
use Rattle.blz_set.specs.Code.Entry.{row_of}
use Rattle.blz_value.specs.Operators.{cells}
use Rattle.blz_set.specs.Code.Index.{has_key}
use Rattle.blz_set.proofs.index.Index.run.Given as goal

abbrev pub invariant-loop-i : goal.invariant-loop-i
invariant-loop-i l = AllWithin (λ (entry : Entry). has_key l.self.columns.now (cells l.row_columns l.row) (row_of entry) ≡ true) l.rest 0 l.i
