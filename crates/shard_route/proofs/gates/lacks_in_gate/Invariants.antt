use Rattle.std.proofs.Common.{◌≡◌, not, false}
use Rattle.std.specs.List.{list_any, range_with_len}
use Rattle.bloom_forms.specs.Annotation.{gate_of_output}
use Rattle.shard_route.specs.Sharding.{has_attribute}
use Rattle.shard_route.proofs.gates.lacks_in_gate.Given as goal

abbrev pub invariant-loop-output : goal.invariant-loop-output
invariant-loop-output l = list_any (λ output. not (has_attribute l.names l.column (gate_of_output l.names l.program output))) (range_with_len 0 l.output) ≡ false
