use Rattle.std.proofs.Common.{◌≡◌, ◌&&◌, not, map, drop}
use Rattle.blz_value.specs.Bits.{bit_of, meets}
use Rattle.blz_value.specs.Arrows.{with_all, bit_if}
use Rattle.path_facts.specs.Readings as spec
use Rattle.path_facts.proofs.readings.stopped.Given as goal

abbrev pub invariant-loop-rule : goal.invariant-loop-rule
invariant-loop-rule l = with_all l.set.bits (map (λ rule. bit_if (meets (bit_of rule.head) l.scratches.bits && not rule.is_plain) rule.head) (drop l.rule-index l.rules)) ≡ spec.stopped l.scratches.bits l.rules
