-- the books of the components so far
use Rattle.std.proofs.Common.{◌≡◌, length}
use Rattle.inbox.specs.Places.{instance_place}
use Rattle.sched_net.specs.Code.First.{AreFirst}
use Rattle.sched_net.proofs.seating.first_seats.Given as goal

abbrev pub invariant-loop-component : goal.invariant-loop-component
invariant-loop-component l = record {
  count : length l.seats.items ≡ instance_place l.valid.view l.component 0;
  first : AreFirst l.valid.view l.seats.items;
}
