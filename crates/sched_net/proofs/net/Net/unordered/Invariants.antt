-- those of the feeds so far, at most so many for each
use Rattle.std.proofs.Common.{◌≡◌, ◌≤◌, ◌*◌, take}
use Rattle.std.specs.List.{sum_by}
use Rattle.inbox.specs.Limits.{message_limit}
use Rattle.sched_net.specs.Code.Remaining.{unlogged_on}
use Rattle.sched_net.proofs.net.Net.unordered.Given as goal

abbrev pub invariant-loop-feed : goal.invariant-loop-feed
invariant-loop-feed g l = record {
  count : l.left ≡ sum_by (unlogged_on l.self.valid.now.view l.self.books.lists.records l.self.books.lists.lists l.log) (take l.feed-index l.feeds);
  few : l.left ≤ l.feed-index * message_limit;
}
