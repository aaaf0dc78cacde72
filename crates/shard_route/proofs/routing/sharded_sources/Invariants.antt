use Rattle.std.proofs.Common.{◌≡◌, map, take}
use Rattle.shard_route.specs.Routing as spec
use Rattle.shard_route.proofs.routing.sharded_sources.Given as goal

abbrev pub invariant-loop-source : goal.invariant-loop-source
invariant-loop-source l = l.others.items ≡ map (spec.sharded_source l.name l.numbers) (take l.source-index l.sources)
