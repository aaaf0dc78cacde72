-- those of the messages so far
use Rattle.std.proofs.Common.{◌≡◌, ◌≤◌, take}
use Rattle.std.specs.List.{count_by}
use Rattle.sched_net.specs.Seen.{list_seen}
use Rattle.sched_net.specs.Code.Remaining.{is_unlogged}
use Rattle.sched_net.proofs.net.Net.unordered_on.Given as goal

abbrev pub invariant-loop-index : goal.invariant-loop-index
invariant-loop-index g l = record {
  count : l.left ≡ count_by (is_unlogged l.self.books.lists.records l.log l.feed.port) (take l.index (list_seen l.self.valid.now.view l.self.books.lists.lists l.feed.stream l.feed.sender));
  few : l.left ≤ l.index;
}
