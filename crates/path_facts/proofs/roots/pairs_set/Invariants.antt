use Rattle.std.proofs.Common.{◌≡◌, map, drop}
use Rattle.blz_value.specs.Arrows.{with_all}
use Rattle.bloom_forms.specs.Gates.{root_set, pair_root, pairs_set}
use Rattle.path_facts.proofs.roots.pairs_set.Given as goal

abbrev pub invariant-loop-pair : goal.invariant-loop-pair
invariant-loop-pair l = with_all l.set.bits (map root_set (map (pair_root l.left l.right) (drop l.pair-index l.pairs))) ≡ pairs_set l.pairs l.left l.right
