use Rattle.std.proofs.Common.{◌≡◌, take}
use Rattle.bloom_forms.specs.Form.{rule_forms}
use Rattle.bloom_forms.specs.Literals.{RulesHaveLiterals}
use Rattle.bloom_forms.proofs.copying.copy_rules.Given as goal

abbrev pub invariant-loop-rule : goal.invariant-loop-rule
invariant-loop-rule l = (rule_forms l.copies.items ≡ rule_forms (take l.rule-index l.rules)) × RulesHaveLiterals (rule_forms (take l.rule-index l.rules))
