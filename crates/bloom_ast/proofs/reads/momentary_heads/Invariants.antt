use Rattle.std.proofs.Common.{◌≡◌, map, drop}
use Rattle.bloom_forms.specs.Form.{rule_forms}
use Rattle.bloom_forms.specs.Lookup.{collection_number}
use Rattle.bloom_forms.specs.Reads.{reads_input, momentary_heads}
use Rattle.blz_value.specs.Arrows.{with_all, bit_if}
use Rattle.bloom_ast.proofs.reads.momentary_heads.Given as goal

abbrev pub invariant-loop-rule : goal.invariant-loop-rule
invariant-loop-rule l = with_all l.set.bits (map (λ r. bit_if (reads_input l.collections l.through l.inputs.bits r.1) (collection_number l.collections r.0)) (rule_forms (drop l.rule-index l.rules))) ≡ momentary_heads l.collections l.through l.inputs.bits (rule_forms l.rules)
