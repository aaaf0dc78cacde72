use Rattle.std.proofs.Common.{◌≡◌, map, drop}
use Rattle.blz_value.specs.Arrows.{with_all}
use Rattle.bloom_forms.specs.Gates.{root_set, set_of_roots}
use Rattle.path_facts.proofs.roots.set_of_roots.Given as goal

abbrev pub invariant-loop-root : goal.invariant-loop-root
invariant-loop-root l = with_all l.set.bits (map root_set (drop l.root-index l.roots)) ≡ set_of_roots l.roots
