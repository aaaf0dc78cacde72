-- the rules so far
use Rattle.std.proofs.Common.{take}
use Rattle.bloom_forms.specs.Form.{rule_forms}
use Rattle.bloom_forms.specs.Numbered.{AreNumbered}
use Rattle.bloom_forms.proofs.numbering.numbered_rules.Given as goal

abbrev pub invariant-loop-rule : goal.invariant-loop-rule
invariant-loop-rule l = AreNumbered l.collections (rule_forms (take l.rule-index l.rules)) l.numbered.items
