use Rattle.std.proofs.Common.{rules, arith, ◌≡◌, ◌+◌, take, List, [], ◌∷◌, ◌++◌, sym, subst}
use Rattle.std.proofs.lemmas.Grind.{common_steps}
use Rattle.std.proofs.lemmas.List.Elements.{All-push}
use Rattle.bloom_forms.specs.Form.{RuleForm, query_of, rule_form, rule_forms}
use Rattle.bloom_forms.specs.Literals.{HasLiterals, RulesHaveLiterals}
use Rattle.bloom_forms.proofs.copying.copy_rules.Goals as goal

-- one rule more
one_more : (rs more : List RuleForm) (r : RuleForm) → RulesHaveLiterals rs → HasLiterals r.1 → more ≡ rs ++ r ∷ [] → RulesHaveLiterals more
one_more rs more r h l e = subst RulesHaveLiterals (sym e) (All-push (λ x. HasLiterals x.1) rs r h l)

pub loop-rule-preserved : goal.loop-rule-preserved
loop-rule-preserved c =
    let copied : rule_forms c.push.new.self.items ≡ rule_forms (take (c.loop-rule.rule-index + 1) c.args.rules.now) = grind (arith, common_steps) in
    let more : rule_forms (take (c.loop-rule.rule-index + 1) c.args.rules.now) ≡ rule_forms (take c.loop-rule.rule-index c.args.rules.now) ++ rule_form c.rule-item.result ∷ [] = grind (arith, common_steps) in
    let literals : HasLiterals (query_of c.rule-item.result.body) = search rules in
    (copied, one_more (rule_forms (take c.loop-rule.rule-index c.args.rules.now)) (rule_forms (take (c.loop-rule.rule-index + 1) c.args.rules.now)) (rule_form c.rule-item.result) c.loop-rule.invariant.1 literals more)
