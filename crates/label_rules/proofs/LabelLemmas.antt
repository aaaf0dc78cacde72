-- The range of severity.
use Rattle.std.proofs.Common.{◌≤◌, arith}
use Rattle.label_rules.specs.declared.label.Label.{Label}
use Rattle.label_rules.specs.declared.label.Label.TheVariants.{Seal, Async, Run, Inst, Diverge}
use Rattle.label_rules.specs.Label.{severity}

pub least_severity : (label : Label) → 1 ≤ severity label
least_severity (Seal key) = omega arith
least_severity Async = omega arith
least_severity Run = omega arith
least_severity Inst = omega arith
least_severity Diverge = omega arith

pub greatest_severity : (label : Label) → severity label ≤ 5
greatest_severity (Seal key) = omega arith
greatest_severity Async = omega arith
greatest_severity Run = omega arith
greatest_severity Inst = omega arith
greatest_severity Diverge = omega arith
