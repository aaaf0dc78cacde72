-- the numbers so far
use Rattle.std.proofs.Common.{◌≡◌, take}
use Rattle.bloom_forms.specs.Borrowed.{names_in}
use Rattle.bloom_forms.specs.Columns.{pair_numbers}
use Rattle.bloom_forms.proofs.numbering.pair_numbers.Given as goal

abbrev pub invariant-loop-pair : goal.invariant-loop-pair
invariant-loop-pair l = l.numbers.items ≡ pair_numbers (names_in l.left) (names_in l.right) (take l.pair-index l.pairs)
