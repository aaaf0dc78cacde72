use Rattle.std.proofs.Common.{◌≡◌, map, drop}
use Rattle.std.specs.List.{enumerate_from}
use Rattle.bloom_forms.specs.Kinds.{is_input}
use Rattle.bloom_forms.specs.Reads.{kind_set}
use Rattle.blz_value.specs.Arrows.{with_all, bit_if}
use Rattle.bloom_ast.proofs.reads.inputs.Given as goal

abbrev pub invariant-loop-i : goal.invariant-loop-i
invariant-loop-i l = with_all l.set.bits (map (λ place. bit_if (is_input place.1.kind) place.0) (enumerate_from l.i (drop l.i l.collections))) ≡ kind_set is_input l.collections
