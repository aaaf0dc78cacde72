use Rattle.std.proofs.Common.{◌≡◌, map, drop}
use Rattle.std.specs.List.{enumerate_from}
use Rattle.blz_value.specs.Bits.{bit_of}
use Rattle.blz_value.specs.Arrows.{with_all}
use Rattle.bloom_forms.specs.Gates.{all_attributes}
use Rattle.path_annotate.proofs.collection_roots.all_attributes.Given as goal

abbrev pub invariant-loop-i : goal.invariant-loop-i
invariant-loop-i l = with_all l.all.bits (map (λ place. bit_of place.0) (enumerate_from l.i (drop l.i l.held))) ≡ all_attributes l.held
