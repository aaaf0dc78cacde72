-- those of the feeds so far, at most so many for each
use Rattle.std.proofs.Common.{◌≡◌, ◌≤◌, ◌*◌}
use Rattle.std.specs.List.{sum_by}
use Rattle.blz_value.specs.NumberSets.{below}
use Rattle.inbox.specs.Limits.{message_limit}
use Rattle.sched_net.specs.Code.Remaining.{unknown_at}
use Rattle.sched_net.proofs.net.Net.undelivered.Given as goal

abbrev pub invariant-loop-number : goal.invariant-loop-number
invariant-loop-number g l = record {
  count : l.left ≡ sum_by (unknown_at l.self.valid.now.view l.self.books.lists.lists l.known l.feeds) (below l.number);
  few : l.left ≤ l.number * message_limit;
}
