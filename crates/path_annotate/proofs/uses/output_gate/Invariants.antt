use Rattle.std.proofs.Common.{drop}
use Rattle.path_annotate.specs.Code.ReadingUses.{gate_towards}
use Rattle.path_facts.proofs.GatesLemmas.{IsCommon}
use Rattle.path_annotate.proofs.uses.output_gate.Given as goal

abbrev pub invariant-loop-rule : goal.invariant-loop-rule
invariant-loop-rule l = IsCommon l.fn.all.bits l.gate.bits (gate_towards l.fn.all.bits l.output (drop l.rule-index l.rules)) (gate_towards l.fn.all.bits l.output l.rules)
