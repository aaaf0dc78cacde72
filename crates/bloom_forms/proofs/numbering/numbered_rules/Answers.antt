use Rattle.std.proofs.Common.{◌+◌, ◌++◌, ◌∷◌, [], take, List, sym, subst}
use Rattle.bloom_forms.specs.declared.numbered.NumberedRule.{NumberedRule}
use Rattle.bloom_forms.specs.Form.{RuleForm, rule_form, rule_forms}
use Rattle.bloom_forms.specs.Numbered.{AreNumbered}
use Rattle.bloom_forms.proofs.Collections.Forms.{rule_in, rules_more}
use Rattle.bloom_forms.proofs.Collections.NameNumbers.{numbered_more}
use Rattle.bloom_forms.proofs.numbering.numbered_rules.Goals as goal

pub numbered_rule-requires-clause-numberable : goal.numbered_rule-requires-clause-numberable
numbered_rule-requires-clause-numberable c = c.requires.numberable (rule_form c.rule-item.result) (rule_in c.args.rules.now c.loop-rule.rule-index c.rule-item.result c.loop-rule-test.true c.rule-item.is)

pub loop-rule-preserved : goal.loop-rule-preserved
loop-rule-preserved c =
    let cs = c.args.collections.now in
    let rules = c.args.rules.now in
    let i = c.loop-rule.rule-index in
    let made : List NumberedRule = c.loop-rule.numbered.items ++ c.in_ok-numbered_rule.field-0 ∷ [] in
    subst (λ (numbered : List NumberedRule). AreNumbered cs (rule_forms (take (i + 1) rules)) numbered) (sym {A = List NumberedRule} c.in_ok-push.ensures.items)
    (subst (λ (forms : List RuleForm). AreNumbered cs forms made) (sym (rules_more rules i c.rule-item.result c.loop-rule-test.true c.rule-item.is))
    (numbered_more cs (rule_forms (take i rules)) c.loop-rule.numbered.items (rule_form c.rule-item.result) c.in_ok-numbered_rule.field-0 c.loop-rule.invariant c.in_ok-numbered_rule.ensures))
