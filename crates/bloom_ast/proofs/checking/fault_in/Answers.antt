use Rattle.std.proofs.Common.{arith}
use Rattle.bloom_forms.specs.Form.{rule_forms}
use Rattle.bloom_ast.proofs.FaultPlaces.{place_small}
use Rattle.bloom_forms.proofs.Collections.Forms.{length_rule_forms}
use Rattle.bloom_ast.proofs.checking.fault_in.Goals as goal

pub kind_fault-requires-clause-collections : goal.kind_fault-requires-clause-collections
kind_fault-requires-clause-collections c = place_small _ c.args.collections.now c.requires.few

pub kind_fault-requires-clause-rules : goal.kind_fault-requires-clause-rules
kind_fault-requires-clause-rules c = place_small _ (rule_forms c.args.rules.now) (omega (arith, length_rule_forms c.args.rules.now, c.requires.few_rules))
