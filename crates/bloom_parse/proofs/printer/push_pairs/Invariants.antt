-- what was written so far
use Rattle.std.proofs.Common.{◌≡◌, ◌++◌, take}
use Rattle.std.specs.List.{flat_map}
use Rattle.bloom_parse.proofs.Printed.PrintLemmas.{pair_part}
use Rattle.bloom_parse.proofs.printer.push_pairs.Given as goal

abbrev pub invariant-loop-left : goal.invariant-loop-left
invariant-loop-left l = l.into.items ≡ l.initial.into.items ++ flat_map pair_part (take l.left-index l.pairs)
