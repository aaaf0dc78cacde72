-- the lanes of the feeds so far
use Rattle.std.proofs.Common.{◌≡◌, ◌++◌, map, take}
use Rattle.sched_run.specs.Made.{feeds_here}
use Rattle.sched_run.specs.declared.lanes.Lane.TheVariants.{Order}
use Rattle.sched_run.proofs.lanes.push_orders.Given as goal

abbrev pub invariant-loop-feed : goal.invariant-loop-feed
invariant-loop-feed l = l.into.items ≡ l.fn.into.items ++ map (λ place. Order l.component place.1) (feeds_here l.stream l.port (take l.feed-index l.feeds))
