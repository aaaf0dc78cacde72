-- what was written so far
use Rattle.std.proofs.Common.{◌≡◌, ◌++◌, take}
use Rattle.std.specs.List.{flat_map}
use Rattle.bloom_parse.proofs.Printed.PrintLemmas.{item_part}
use Rattle.bloom_parse.proofs.printer.push_more_items.Given as goal

abbrev pub invariant-loop-item : goal.invariant-loop-item
invariant-loop-item l = l.into.items ≡ l.initial.into.items ++ flat_map item_part (take l.item-index l.items)
