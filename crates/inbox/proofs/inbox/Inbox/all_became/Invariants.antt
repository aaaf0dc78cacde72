-- those of the messages so far
use Rattle.std.proofs.Common.{◌≡◌, take}
use Rattle.std.specs.List.{filter_map}
use Rattle.messages.specs.Whole.{feeds_view, partitions}
use Rattle.inbox.specs.Code.Batches.{became_key}
use Rattle.inbox.proofs.inbox.Inbox.all_became.Given as goal

abbrev pub invariant-loop-one : goal.invariant-loop-one
invariant-loop-one l = l.keys.items ≡ filter_map (became_key (feeds_view l.self.feeds) (partitions l.self.feeds)) (take l.one-index l.touched)
