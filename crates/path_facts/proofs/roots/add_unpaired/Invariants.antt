use Rattle.std.proofs.Common.{◌≡◌, ◌++◌}
use Rattle.blz_value.specs.Operators.{unpaired}
use Rattle.bloom_forms.specs.Roots.{no_roots}
use Rattle.path_facts.proofs.RootsLemmas.{unpaired_from}
use Rattle.path_facts.proofs.roots.add_unpaired.Given as goal

abbrev pub invariant-loop-i : goal.invariant-loop-i
invariant-loop-i l = l.roots.items ++ unpaired_from l.pairs l.i l.right ≡ l.initial.roots.items ++ no_roots (unpaired l.pairs l.right)
