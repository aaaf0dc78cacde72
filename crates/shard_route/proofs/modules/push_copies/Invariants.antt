use Rattle.std.proofs.Common.{◌≡◌, ◌++◌, take}
use Rattle.shard_route.proofs.modules.push_copies.Given as goal

abbrev pub invariant-loop-checked : goal.invariant-loop-checked
invariant-loop-checked l = l.into.items ≡ l.initial.into.items ++ take l.checked-index l.modules
