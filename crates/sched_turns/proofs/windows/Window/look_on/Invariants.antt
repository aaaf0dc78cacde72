-- the open places so far
use Rattle.std.proofs.Common.{◌≡◌, ◌≤◌, ◌-◌, length}
use Rattle.sched_turns.specs.Windows.{open_below, window_size}
use Rattle.sched_turns.proofs.windows.Window.look_on.Given as goal

abbrev pub invariant-loop-self : goal.invariant-loop-self
invariant-loop-self g l = record {
  below : l.self-inside.places.items ≡ open_below (g.L.OpenPlaces.is_open l.list) l.self-inside.next;
  inside : l.self-inside.next ≤ l.count;
  few : length l.self-inside.places.items ≤ window_size;
}

abbrev pub decreases-loop-self : goal.decreases-loop-self
decreases-loop-self g l = l.count - l.self-inside.next
