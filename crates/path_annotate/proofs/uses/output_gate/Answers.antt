use Rattle.std.proofs.Common.{◌∙◌, if◌then◌else◌, false, ap, arith, bit_and}
use Rattle.std.specs.Prelude.{◌==◌}
use Rattle.path_facts.specs.declared.readings.Reading.{Reading}
use Rattle.path_facts.proofs.GatesLemmas.{common_start, common_step, common_end}
use Rattle.path_annotate.proofs.uses.output_gate.Goals as goal

-- what is read past the end
past : Reading
past = record { head = 0; direct = record { bits = 0 }; behind = record { bits = 0 }; is_momentary = false; is_free = false; gate = record { bits = 0 } }

pub loop-rule-init : goal.loop-rule-init
loop-rule-init c = common_start c.args.all.bits _

pub loop-rule-preserved : goal.loop-rule-preserved
unfolding past
loop-rule-preserved c =
    let all = c.args.all.bits in
    let set = λ (rule : Reading). if rule.head == c.args.output then rule.gate.bits else all in
    let is = c.intersection-gate.ensures ∙ ap (bit_and c.loop-rule.gate.bits) c.gate_if.ensures in
    common_step all set c.args.rules.now c.loop-rule.rule-index past c.loop-rule.gate.bits c.intersection-gate.result.bits _ (omega (arith, c.loop-rule-test.true)) is c.loop-rule.invariant

pub returns : goal.returns
returns c =
    let set = λ (rule : Reading). if rule.head == c.args.output then rule.gate.bits else c.args.all.bits in
    common_end c.args.all.bits set c.args.rules.now c.loop-rule.rule-index c.loop-rule.gate.bits _ (omega (arith, c.loop-rule-test.false)) c.loop-rule.invariant
