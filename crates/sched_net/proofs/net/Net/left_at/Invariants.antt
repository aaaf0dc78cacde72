-- what is left out, and what is left at the replicas so far
use Rattle.std.proofs.Common.{◌≤◌, ◌+◌, ◌*◌}
use Rattle.std.specs.List.{sum_by}
use Rattle.blz_value.specs.NumberSets.{below}
use Rattle.inbox.specs.Completeness.{left_of, left_out}
use Rattle.inbox.specs.Wiring.{wiring_of}
use Rattle.inbox.specs.Limits.{message_limit}
use Rattle.sched_net.specs.Reading.{IsRead}
use Rattle.sched_net.proofs.net.Net.left_at.Given as goal

abbrev pub invariant-loop-replica : goal.invariant-loop-replica
invariant-loop-replica g l = record {
  left : IsRead l.self.valid.now.view l.self.books (λ given x. left_out (wiring_of l.self.valid.now.view) given x l.component + sum_by (left_of (wiring_of l.self.valid.now.view) given x l.component) (below l.replica)) l.left;
  few : l.left ≤ (l.replica + 1) * (4096 * message_limit);
}
