use Rattle.std.proofs.Common.{drop}
use Rattle.path_facts.specs.Readings as spec
use Rattle.path_facts.proofs.GatesLemmas.{IsCommon}
use Rattle.path_facts.proofs.readings.gate_among.Given as goal

abbrev pub invariant-loop-rule : goal.invariant-loop-rule
invariant-loop-rule l = IsCommon l.fn.all.bits l.common.bits (spec.gate_among l.fn.all.bits l.fn.heads.bits (drop l.rule-index l.rules)) (spec.gate_among l.fn.all.bits l.fn.heads.bits l.rules)
