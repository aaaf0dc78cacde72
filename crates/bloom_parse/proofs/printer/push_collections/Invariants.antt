-- what was written so far
use Rattle.std.proofs.Common.{◌≡◌, ◌++◌, take}
use Rattle.std.specs.List.{flat_map}
use Rattle.bloom_parse.proofs.Printed.PrintLemmas.{collection_part}
use Rattle.bloom_parse.proofs.printer.push_collections.Given as goal

abbrev pub invariant-loop-collection : goal.invariant-loop-collection
invariant-loop-collection l = l.into.items ≡ l.initial.into.items ++ flat_map collection_part (take l.collection-index l.collections)
