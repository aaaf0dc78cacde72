use Rattle.std.proofs.Common.{◌≡◌, map, take}
use Rattle.bloom_forms.specs.HeadRoots.{roots_numbered}
use Rattle.path_annotate.proofs.facts.roots_of_all.Given as goal

abbrev pub invariant-loop-number : goal.invariant-loop-number
invariant-loop-number l = l.roots.items ≡ map (roots_numbered l.table) (take l.number-index l.numbers)
