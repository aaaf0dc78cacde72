use Rattle.std.proofs.Common.{◌≡◌, ◌++◌, drop}
use Rattle.shard_route.specs.Sharding.{files_of}
use Rattle.shard_route.proofs.sharding.files_of.Given as goal

abbrev pub invariant-loop-place : goal.invariant-loop-place
invariant-loop-place l = l.files.items ++ files_of l.name (drop l.place l.numbers) (drop l.place l.copies) ≡ files_of l.name l.numbers l.copies
