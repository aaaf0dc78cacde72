-- the lanes of the replicas so far
use Rattle.std.proofs.Common.{◌≡◌, ◌++◌}
use Rattle.std.specs.List.{flat_map}
use Rattle.blz_value.specs.NumberSets.{below}
use Rattle.inbox.specs.Wiring.{wiring_of}
use Rattle.sched_run.specs.Made.{instance_lanes}
use Rattle.sched_run.proofs.lanes.push_lanes_at.Given as goal

abbrev pub invariant-loop-replica : goal.invariant-loop-replica
invariant-loop-replica l = l.into.items ≡ l.fn.into.items ++ flat_map (instance_lanes (wiring_of l.valid.view) l.stream l.component l.port) (below l.replica)
