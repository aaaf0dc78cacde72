use Rattle.std.proofs.Common.{◌∙◌}
use Rattle.sched_net.proofs.FirstSeats.{next_component}
use Rattle.sched_net.proofs.seating.first_seats.Goals as goal

pub loop-component-preserved : goal.loop-component-preserved
loop-component-preserved c = record {
  count = c.in_ok-push_seats.ensures.count ∙ next_component c.args.valid.now.view c.loop-component.component;
  first = c.in_ok-push_seats.ensures.first;
}
