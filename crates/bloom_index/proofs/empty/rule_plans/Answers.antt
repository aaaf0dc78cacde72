use Rattle.bloom_forms.specs.declared.numbered.NumberedRule.{NumberedRule}
use Rattle.bloom_index.specs.declared.plan.Plan.{Plan}
use Rattle.bloom_index.specs.Code.Emptiness.{IsFresh}
use Rattle.bloom_index.proofs.EmptyLemmas.{zip_more}
use Rattle.bloom_index.proofs.empty.rule_plans.Goals as goal

pub loop-rule-preserved : goal.loop-rule-preserved
loop-rule-preserved c =
    zip_more (λ (rule : NumberedRule) (plan : Plan). IsFresh c.args.growing.now rule.body plan) c.args.rules.now c.loop-rule.plans.items c.push.new.self.items c.loop-rule.rule-index c.rule-item.result c.in_ok-plan_of.field-0 c.loop-rule-test.true c.rule-item.is c.in_ok-push.ensures.items c.loop-rule.invariant c.in_ok-plan_of.ensures
