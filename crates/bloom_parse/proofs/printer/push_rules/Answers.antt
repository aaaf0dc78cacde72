use Rattle.std.proofs.Common.{arith}
use Rattle.bloom_parse.proofs.Printed.PrintLemmas.{whole_rule_part, rules_flat, written_all}
use Rattle.bloom_parse.proofs.printer.push_rules.Goals as goal

pub returns : goal.returns
returns c = written_all whole_rule_part c.args.rules.now c.loop-rule.rule-index c.args.into.now.items c.loop-rule.into.items _ (omega arith) (rules_flat c.args.rules.now) c.loop-rule.invariant
