-- the replicas so far
use Rattle.std.proofs.Common.{◌≡◌, ◌++◌, map}
use Rattle.blz_value.specs.NumberSets.{below}
use Rattle.sched_run.proofs.lanes.push_takers.Given as goal

abbrev pub invariant-loop-replica : goal.invariant-loop-replica
invariant-loop-replica l = l.into.items ≡ l.fn.into.items ++ map (λ replica. record { component = l.component; replica = replica }) (below l.replica)
