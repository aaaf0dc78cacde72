use Rattle.std.proofs.Common.{◌≡◌, ◌++◌, map, take}
use Rattle.shard_route.specs.Routing as spec
use Rattle.shard_route.proofs.routing.push_copied_components.Given as goal

abbrev pub invariant-loop-number : goal.invariant-loop-number
invariant-loop-number l = l.into.items ≡ l.initial.into.items ++ map (spec.copied_component l.component) (take l.number-index l.numbers)
