-- what is left at the components so far
use Rattle.std.proofs.Common.{◌≤◌, ◌*◌}
use Rattle.std.specs.List.{sum_by}
use Rattle.blz_value.specs.NumberSets.{below}
use Rattle.topo_forms.specs.View.{replicas_of}
use Rattle.inbox.specs.Completeness.{left_at}
use Rattle.inbox.specs.Wiring.{wiring_of}
use Rattle.inbox.specs.Limits.{message_limit}
use Rattle.sched_net.specs.Reading.{IsRead}
use Rattle.sched_net.proofs.net.Net.left.Given as goal

abbrev pub invariant-loop-component : goal.invariant-loop-component
invariant-loop-component g l = record {
  left : IsRead l.self.valid.now.view l.self.books (λ given x. sum_by (λ c. left_at (wiring_of l.self.valid.now.view) given x c (replicas_of l.self.valid.now.view c)) (below l.component)) l.left;
  few : l.left ≤ l.component * (9 * 4096 * message_limit);
}
