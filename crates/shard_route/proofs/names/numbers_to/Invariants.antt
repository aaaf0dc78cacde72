use Rattle.std.proofs.Common.{◌≡◌}
use Rattle.shard_route.specs.Routing as spec
use Rattle.shard_route.proofs.names.numbers_to.Given as goal

abbrev pub invariant-loop-place : goal.invariant-loop-place
invariant-loop-place l = l.numbers.items ≡ spec.numbers_to l.place
