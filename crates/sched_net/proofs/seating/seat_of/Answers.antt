use Rattle.std.proofs.Common.{◌∙◌}
use Rattle.sched_net.proofs.seating.seat_of.Goals as goal

pub returns : goal.returns
returns c = λ l. record {
  outlets = c.in_ok-outlets_of.ensures;
  feeds = c.from_vec.ensures ∙ c.in_ok-feeds_of.ensures;
  ear = c.in_ok-ear_of.ensures l;
}
