use Rattle.std.proofs.Common.{◌≡◌, drop}
use Rattle.std.specs.List.{list_any}
use Rattle.shard_route.specs.Routing as spec
use Rattle.shard_route.proofs.names.has_long_copy.Given as goal

abbrev pub invariant-loop-number : goal.invariant-loop-number
invariant-loop-number l = list_any (λ i. spec.is_long_name (spec.numbered l.name i)) (drop l.number-index l.numbers) ≡ list_any (λ i. spec.is_long_name (spec.numbered l.name i)) l.numbers
