-- the books of the replicas so far
use Rattle.std.proofs.Common.{◌≡◌, length}
use Rattle.inbox.specs.Places.{instance_place}
use Rattle.sched_net.specs.Code.First.{AreFirst}
use Rattle.sched_net.proofs.seating.push_seats.Given as goal

abbrev pub invariant-loop-replica : goal.invariant-loop-replica
invariant-loop-replica l = record {
  count : length l.seats.items ≡ instance_place l.valid.view l.component l.replica;
  first : AreFirst l.valid.view l.seats.items;
}
