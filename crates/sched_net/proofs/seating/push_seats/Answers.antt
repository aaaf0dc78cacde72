use Rattle.std.proofs.Common.{◌∷◌, [], ap, arith, length, length-append, subst, sym}
use Rattle.sched_net.specs.Code.First.{AreFirst}
use Rattle.sched_net.specs.declared.seated.Seated.{Seated}
use Rattle.sched_net.proofs.FirstSeats.{seats_more}
use Rattle.sched_net.proofs.seating.push_seats.Goals as goal

pub loop-replica-preserved : goal.loop-replica-preserved
loop-replica-preserved c = record {
  count = omega (arith, ap (length {A = Seated}) c.in_ok-push.ensures.items, length-append c.loop-replica.seats.items (c.in_ok-seat_of.field-0 ∷ []), c.loop-replica.invariant.count);
  first =
      subst (AreFirst c.args.valid.now.view) (sym c.in_ok-push.ensures.items)
      (seats_more c.args.valid.now.view c.loop-replica.seats.items c.in_ok-seat_of.field-0 c.args.component c.loop-replica.replica c.loop-replica.invariant.first
      (omega (arith, c.loop-replica-test.true, c.replicas-replica-end.ensures)) c.loop-replica.invariant.count c.in_ok-seat_of.ensures);
}
