use Rattle.std.proofs.Common.{◌≡◌, map, fold, take}
use Rattle.label_rules.specs.Reconciliation as spec
use Rattle.label_rules.proofs.reconciliation.worst_from.Given as goal

abbrev pub invariant-loop-path : goal.invariant-loop-path
invariant-loop-path l = l.label ≡ fold spec.worse l.initial.label (map (spec.settled l.protected l.replicated) (take l.path-index l.paths))
