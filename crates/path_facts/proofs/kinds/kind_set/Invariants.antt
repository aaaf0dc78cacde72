use Rattle.std.proofs.Common.{◌≡◌, map, drop}
use Rattle.std.specs.List.{enumerate_from}
use Rattle.bloom_forms.specs.Kinds.{same_kind}
use Rattle.bloom_forms.specs.Reads.{kind_set}
use Rattle.blz_value.specs.Arrows.{with_all, bit_if}
use Rattle.path_facts.proofs.kinds.kind_set.Given as goal

abbrev pub invariant-loop-i : goal.invariant-loop-i
invariant-loop-i l = with_all l.set.bits (map (λ place. bit_if (same_kind l.kind place.1.kind) place.0) (enumerate_from l.i (drop l.i l.collections))) ≡ kind_set (same_kind l.kind) l.collections
