use Rattle.std.proofs.Common.{◌≡◌, take, map}
use Rattle.bloom_forms.specs.Form.{formula_of, rule_forms}
use Rattle.bloom_forms.specs.Shards.{copied_rule}
use Rattle.shard_route.proofs.expressions.copied_rules.Given as goal

abbrev pub invariant-loop-rule : goal.invariant-loop-rule
invariant-loop-rule l = rule_forms l.copies.items ≡ map (copied_rule l.collections (formula_of l.test)) (rule_forms (take l.rule-index l.rules))
