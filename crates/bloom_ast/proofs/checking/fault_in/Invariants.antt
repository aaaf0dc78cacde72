use Rattle.std.proofs.Common.{◌≡◌, drop}
use Rattle.bloom_forms.specs.Faults as spec
use Rattle.bloom_forms.specs.Form.{rule_forms}
use Rattle.bloom_ast.proofs.checking.fault_in.Given as goal

abbrev pub invariant-loop-kind : goal.invariant-loop-kind
invariant-loop-kind l = spec.fault_in l.facts (drop l.kind-index l.kinds) l.collections (rule_forms l.rules) ≡ spec.fault_in l.facts l.kinds l.collections (rule_forms l.rules)
