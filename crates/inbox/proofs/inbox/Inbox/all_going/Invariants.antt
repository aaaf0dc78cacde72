-- those of the messages so far
use Rattle.std.proofs.Common.{◌≡◌, filter, take, List}
use Rattle.blz_value.specs.Record.{Row}
use Rattle.messages.specs.Whole.{feeds_view, partitions}
use Rattle.inbox.specs.Code.Batches.{AreTouched, goes_in, entry_ids_of}
use Rattle.inbox.proofs.inbox.Inbox.all_going.Given as goal

abbrev pub invariant-loop-at : goal.invariant-loop-at
invariant-loop-at l = (records : List Row) → AreTouched records (feeds_view l.self.feeds) (partitions l.self.feeds) l.batch l.touched → l.going.items ≡ filter (goes_in records l.self) (entry_ids_of (feeds_view l.self.feeds) (take l.at l.batch))
