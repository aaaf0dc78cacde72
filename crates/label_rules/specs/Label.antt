-- How bad a label is.
use Rattle.std.specs.Prelude.{ℕ}
use Rattle.label_rules.specs.declared.label.Label.{Label}
use Rattle.label_rules.specs.declared.label.Label.TheVariants.{Seal, Async, Run, Inst, Diverge}

-- Seal, Async, Run, Inst, Diverge upwards
abbrev pub severity : Label → ℕ
severity (Seal key) = 1
severity Async = 2
severity Run = 3
severity Inst = 4
severity Diverge = 5
