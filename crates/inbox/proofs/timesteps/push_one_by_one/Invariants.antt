-- the timesteps of the entries so far
use Rattle.std.proofs.Common.{◌≡◌, ◌++◌, take}
use Rattle.blz_pool.specs.Entries.{entries_with_ids}
use Rattle.inbox.specs.Timesteps.{one_by_one}
use Rattle.inbox.proofs.timesteps.push_one_by_one.Given as goal

abbrev pub invariant-loop-entry : goal.invariant-loop-entry
invariant-loop-entry l = l.steps.items ≡ l.initial.steps.items ++ one_by_one l.ports (entries_with_ids l.pool (take l.entry-index l.entries))
