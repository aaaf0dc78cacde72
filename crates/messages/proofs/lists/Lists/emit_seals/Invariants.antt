use Rattle.std.proofs.Common.{◌<◌, ◌≤◌, Some, length, take}
use Rattle.messages.specs.Emitted.{with_seals}
use Rattle.messages.specs.Lists.{message_limit}
use Rattle.messages.specs.Lists.{OneListBecomes, IsExact, read_lists, list_at, total}
use Rattle.messages.proofs.lists.Lists.emit_seals.Given as goal

abbrev pub invariant-loop-key : goal.invariant-loop-key
invariant-loop-key l = record {
  becomes : OneListBecomes l.fn.self l.self l.place (with_seals (Some l.columns) (list_at (read_lists l.fn.self) l.place) (take l.key-index l.keys));
  exact : IsExact l.self;
  few : total l.self.lists ≤ message_limit;
  place : l.place < length l.self.lists;
}
