use Rattle.std.proofs.Common.{◌≡◌, drop}
use Rattle.blz_value.specs.FirstPlace.{first_place}
use Rattle.bloom_forms.specs.Faults as spec
use Rattle.bloom_forms.specs.Form.{rule_forms}
use Rattle.bloom_ast.proofs.checking.first_rule.Given as goal

abbrev pub invariant-loop-i : goal.invariant-loop-i
invariant-loop-i l = first_place (spec.bad_rule l.kind l.collections l.facts) l.i (rule_forms (drop l.i l.rules)) ≡ first_place (spec.bad_rule l.kind l.collections l.facts) 0 (rule_forms l.rules)
