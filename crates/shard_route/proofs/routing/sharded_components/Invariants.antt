use Rattle.std.proofs.Common.{◌≡◌, take}
use Rattle.std.specs.List.{flat_map}
use Rattle.shard_route.specs.Routing as spec
use Rattle.shard_route.proofs.routing.sharded_components.Given as goal

abbrev pub invariant-loop-component : goal.invariant-loop-component
invariant-loop-component l = l.others.items ≡ flat_map (spec.sharded_component l.name l.numbers) (take l.component-index l.components)
