-- what was written so far
use Rattle.std.proofs.Common.{◌≡◌, ◌++◌, take}
use Rattle.std.specs.List.{flat_map}
use Rattle.bloom_parse.proofs.Printed.PrintLemmas.{whole_rule_part}
use Rattle.bloom_parse.proofs.printer.push_rules.Given as goal

abbrev pub invariant-loop-rule : goal.invariant-loop-rule
invariant-loop-rule l = l.into.items ≡ l.initial.into.items ++ flat_map whole_rule_part (take l.rule-index l.rules)
