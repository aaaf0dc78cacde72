-- the takers of the components so far
use Rattle.std.proofs.Common.{◌≡◌}
use Rattle.std.specs.List.{flat_map}
use Rattle.blz_value.specs.NumberSets.{below}
use Rattle.inbox.specs.Wiring.{wiring_of}
use Rattle.sched_run.specs.Made.{takers_at}
use Rattle.sched_run.proofs.lanes.takers.Given as goal

abbrev pub invariant-loop-component : goal.invariant-loop-component
invariant-loop-component l = l.all.items ≡ flat_map (takers_at (wiring_of l.valid.view)) (below l.component)
