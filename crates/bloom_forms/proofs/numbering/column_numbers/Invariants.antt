-- the numbers so far
use Rattle.std.proofs.Common.{◌≡◌, take}
use Rattle.bloom_forms.specs.Borrowed.{names_in}
use Rattle.bloom_forms.specs.Rows.{column_numbers}
use Rattle.bloom_forms.proofs.numbering.column_numbers.Given as goal

abbrev pub invariant-loop-name : goal.invariant-loop-name
invariant-loop-name l = l.numbers.items ≡ column_numbers (names_in l.columns) (take l.name-index l.names)
