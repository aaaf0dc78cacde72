use Rattle.std.proofs.Common.{◌≡◌, ◌++◌, map, filter, drop}
use Rattle.std.specs.Prelude.{◌==◌}
use Rattle.path_annotate.specs.Code.ByNumber.{roots_by}
use Rattle.path_annotate.proofs.collection_roots.rules_roots.Given as goal

abbrev pub invariant-loop-rule : goal.invariant-loop-rule
invariant-loop-rule l = l.given.items ++ map (λ rule. roots_by l.table rule.body) (filter (λ rule. rule.head == l.head) (drop l.rule-index l.rules)) ≡ map (λ rule. roots_by l.table rule.body) (filter (λ rule. rule.head == l.head) l.rules)
