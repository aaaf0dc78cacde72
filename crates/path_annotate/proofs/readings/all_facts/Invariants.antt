use Rattle.std.proofs.Common.{◌≡◌, map, take}
use Rattle.path_annotate.specs.Code.ByNumber.{facts_by}
use Rattle.path_annotate.proofs.readings.all_facts.Given as goal

abbrev pub invariant-loop-rule : goal.invariant-loop-rule
invariant-loop-rule l = l.facts.items ≡ map (facts_by l.all.bits l.table) (take l.rule-index l.rules)
