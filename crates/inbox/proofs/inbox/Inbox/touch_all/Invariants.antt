-- the messages so far are touched
use Rattle.std.proofs.Common.{take}
use Rattle.messages.specs.Whole.{feeds_view, partitions}
use Rattle.inbox.specs.Code.Batches.{AreTouched, IsSeenAs}
use Rattle.inbox.proofs.inbox.Inbox.touch_all.Given as goal

abbrev pub invariant-loop-feed : goal.invariant-loop-feed
invariant-loop-feed l = record {
  seen : IsSeenAs l.fn.self l.self;
  touched : AreTouched l.pool (feeds_view l.self.feeds) (partitions l.self.feeds) (take l.feed-index l.batch) l.touched.items;
}
