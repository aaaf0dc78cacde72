-- what is kept of the rules so far
use Rattle.std.proofs.Common.{take}
use Rattle.std.specs.List.{AllZip}
use Rattle.bloom_forms.specs.declared.numbered.NumberedRule.{NumberedRule}
use Rattle.bloom_index.specs.declared.plan.Plan.{Plan}
use Rattle.bloom_index.specs.Code.Emptiness.{IsFresh}
use Rattle.bloom_index.proofs.empty.rule_plans.Given as goal

abbrev pub invariant-loop-rule : goal.invariant-loop-rule
invariant-loop-rule l = AllZip (λ (rule : NumberedRule) (plan : Plan). IsFresh l.growing rule.body plan) (take l.rule-index l.rules) l.plans.items
