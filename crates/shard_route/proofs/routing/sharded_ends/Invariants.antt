use Rattle.std.proofs.Common.{◌≡◌, take}
use Rattle.std.specs.List.{flat_map}
use Rattle.shard_route.specs.Routing as spec
use Rattle.shard_route.proofs.routing.sharded_ends.Given as goal

abbrev pub invariant-loop-end : goal.invariant-loop-end
invariant-loop-end l = l.others.items ≡ flat_map (spec.sharded_spot l.name l.numbers) (take l.end-index l.ends)
