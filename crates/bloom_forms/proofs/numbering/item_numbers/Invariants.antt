-- the numbers so far
use Rattle.std.proofs.Common.{◌≡◌, take}
use Rattle.bloom_forms.specs.Borrowed.{names_in}
use Rattle.bloom_forms.specs.Rows.{item_numbers}
use Rattle.bloom_forms.proofs.numbering.item_numbers.Given as goal

abbrev pub invariant-loop-item : goal.invariant-loop-item
invariant-loop-item l = l.numbers.items ≡ item_numbers (names_in l.columns) (take l.item-index l.items)
