use Rattle.std.proofs.Common.{◌≡◌, map, take}
use Rattle.path_annotate.specs.Code.ReadingUses.{gate_towards}
use Rattle.path_annotate.proofs.facts.gates_of_all.Given as goal

abbrev pub invariant-loop-number : goal.invariant-loop-number
invariant-loop-number l = map (λ gate. gate.bits) l.gates.items ≡ map (λ n. gate_towards l.all.bits n l.rules) (take l.number-index l.numbers)
