-- the lanes of the feeds so far
use Rattle.std.proofs.Common.{◌≡◌, ◌++◌, map, take}
use Rattle.sched_run.specs.Made.{feeds_here}
use Rattle.sched_run.specs.declared.lanes.Lane.TheVariants.{Deliver}
use Rattle.sched_run.proofs.lanes.push_deliveries.Given as goal

abbrev pub invariant-loop-number : goal.invariant-loop-number
invariant-loop-number l = l.into.items ≡ l.fn.into.items ++ map (λ place. Deliver l.component l.replica place.0 place.1) (feeds_here l.stream l.port (take l.number l.feeds))
