-- the messages so far are heard
use Rattle.std.proofs.Common.{◌≡◌, ◌++◌, Bool, List, take}
use Rattle.messages.specs.Ids.{batch_with_ids}
use Rattle.messages.specs.Whole.{partitions}
use Rattle.inbox.specs.Code.Batches.{AreHeardAs}
use Rattle.inbox.specs.Inbox.{Keeps, IsFrom, feeds_in}
use Rattle.inbox.specs.Instances.{Instance}
use Rattle.messages.specs.Messages.{Pair, Entry}
use Rattle.inbox.proofs.inbox.Inbox.hear_all.Given as goal

abbrev pub invariant-loop-at : goal.invariant-loop-at
invariant-loop-at l = record {
  count : feeds_in l.self ≡ feeds_in l.fn.self;
  parts : partitions l.self.feeds ≡ partitions l.fn.self.feeds;
  keeps : (i : Instance) (waits : Entry → Bool) (heard : List Pair) → AreHeardAs i l.pool (partitions l.fn.self.feeds) waits l.batch l.touched → Keeps i l.pool waits heard l.fn.self → Keeps i l.pool waits (heard ++ batch_with_ids l.pool (take l.at l.batch)) l.self;
  from : IsFrom l.pool l.fn.self → IsFrom l.pool l.self;
}
