-- the lanes of the ends so far
use Rattle.std.proofs.Common.{◌≡◌, ◌++◌, take}
use Rattle.std.specs.List.{flat_map}
use Rattle.topo_forms.specs.View.{ends_of}
use Rattle.inbox.specs.Wiring.{wiring_of}
use Rattle.sched_run.specs.Made.{lanes_at}
use Rattle.sched_run.proofs.lanes.push_lanes_of.Given as goal

abbrev pub invariant-loop-n : goal.invariant-loop-n
invariant-loop-n l = l.into.items ≡ l.fn.into.items ++ flat_map (lanes_at (wiring_of l.valid.view) l.stream) (take l.n (ends_of l.valid.view l.stream))
