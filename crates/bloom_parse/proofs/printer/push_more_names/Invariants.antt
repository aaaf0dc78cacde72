-- what was written so far
use Rattle.std.proofs.Common.{◌≡◌, ◌++◌, take}
use Rattle.std.specs.List.{flat_map}
use Rattle.bloom_parse.proofs.Printed.PrintLemmas.{name_part}
use Rattle.bloom_parse.proofs.printer.push_more_names.Given as goal

abbrev pub invariant-loop-name : goal.invariant-loop-name
invariant-loop-name l = l.into.items ≡ l.initial.into.items ++ flat_map name_part (take l.name-index l.names)
