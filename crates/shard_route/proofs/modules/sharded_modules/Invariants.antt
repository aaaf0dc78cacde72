use Rattle.std.proofs.Common.{◌≡◌, ◌++◌, drop}
use Rattle.shard_route.specs.Routing as spec
use Rattle.shard_route.proofs.modules.sharded_modules.Given as goal

abbrev pub invariant-loop-component : goal.invariant-loop-component
invariant-loop-component l = l.all.items ++ spec.sharded_modules l.name l.copies (drop l.component-index l.components) l.rest ≡ spec.sharded_modules l.name l.copies l.components l.modules
