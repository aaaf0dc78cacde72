use Rattle.std.proofs.Common.{◌≡◌, ◌∙◌, ℕ, Bool, false, if◌then◌else◌, ap, arith, get_or, bit_and}
use Rattle.blz_value.specs.Bits.{bit_of, meets}
use Rattle.path_facts.specs.declared.readings.RuleFacts.{RuleFacts}
use Rattle.path_facts.proofs.GatesLemmas.{common_start, common_step, common_end}
use Rattle.path_facts.proofs.readings.gate_among.Goals as goal

-- what is read past the end
past : RuleFacts
past = record { head = 0; named = record { bits = 0 }; is_plain = false; gate = record { bits = 0 } }

pub loop-rule-init : goal.loop-rule-init
loop-rule-init c = common_start c.args.all.bits _

pub loop-rule-preserved : goal.loop-rule-preserved
unfolding past
loop-rule-preserved c =
    let all = c.args.all.bits in
    let heads = c.args.heads.bits in
    let rules = c.args.rules.now in
    let i = c.loop-rule.rule-index in
    let common = c.loop-rule.common.bits in
    let set = λ (rule : RuleFacts). if meets (bit_of rule.head) heads then rule.gate.bits else all in
    let rule = get_or rules i past in
    let here : c.meets-here.result ≡ meets (bit_of rule.head) heads = c.meets-here.ensures.computed ∙ ap (λ (n : ℕ). meets n heads) c.of.ensures in
    let is = c.intersection-common.ensures ∙ ap (bit_and common) (c.gate_if.ensures ∙ ap (λ (b : Bool). if b then rule.gate.bits else all) here) in
    common_step all set rules i past common c.intersection-common.result.bits _ (omega (arith, c.loop-rule-test.true)) is c.loop-rule.invariant

pub returns : goal.returns
returns c =
    let set = λ (rule : RuleFacts). if meets (bit_of rule.head) c.args.heads.bits then rule.gate.bits else c.args.all.bits in
    common_end c.args.all.bits set c.args.rules.now c.loop-rule.rule-index c.loop-rule.common.bits _ (omega (arith, c.loop-rule-test.false)) c.loop-rule.invariant
