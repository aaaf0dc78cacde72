use Rattle.std.proofs.Common.{◌≡◌, take}
use Rattle.bloom_forms.specs.Form.{rule_forms}
use Rattle.bloom_forms.specs.Reads as spec
use Rattle.bloom_ast.proofs.reads.arrows.Given as goal

abbrev pub invariant-loop-rule : goal.invariant-loop-rule
invariant-loop-rule l = l.fds.items ≡ spec.arrows l.collections (rule_forms (take l.rule-index l.rules))
