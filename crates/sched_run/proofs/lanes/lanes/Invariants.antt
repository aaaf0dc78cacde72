-- the lanes of the streams so far
use Rattle.std.proofs.Common.{◌≡◌, take}
use Rattle.std.specs.List.{enumerate_from, flat_map}
use Rattle.inbox.specs.Wiring.{wiring_of}
use Rattle.sched_run.specs.Made.{lanes_at}
use Rattle.sched_run.proofs.lanes.lanes.Given as goal

abbrev pub invariant-loop-stream : goal.invariant-loop-stream
invariant-loop-stream l = l.all.items ≡ flat_map (λ place. flat_map (lanes_at (wiring_of l.valid.view) place.0) place.1.to) (enumerate_from 0 (take l.stream l.valid.view.streams))
