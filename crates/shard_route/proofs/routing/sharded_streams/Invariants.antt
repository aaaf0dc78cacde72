use Rattle.std.proofs.Common.{◌≡◌, take}
use Rattle.std.specs.List.{flat_map}
use Rattle.shard_route.specs.Routing as spec
use Rattle.shard_route.proofs.routing.sharded_streams.Given as goal

abbrev pub invariant-loop-stream : goal.invariant-loop-stream
invariant-loop-stream l = l.others.items ≡ flat_map (spec.sharded_stream l.name l.numbers) (take l.stream-index l.streams)
