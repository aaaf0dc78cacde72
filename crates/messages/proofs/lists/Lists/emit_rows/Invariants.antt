use Rattle.std.proofs.Common.{◌<◌, ◌≤◌, length, take}
use Rattle.messages.specs.Emitted.{with_rows}
use Rattle.messages.specs.Lists.{message_limit}
use Rattle.messages.specs.Lists.{OneListBecomes, IsExact, read_lists, list_at, total}
use Rattle.messages.proofs.lists.Lists.emit_rows.Given as goal

abbrev pub invariant-loop-row : goal.invariant-loop-row
invariant-loop-row l = record {
  becomes : OneListBecomes l.fn.self l.self l.place (with_rows (list_at (read_lists l.fn.self) l.place) (take l.row-index l.rows));
  exact : IsExact l.self;
  few : total l.self.lists ≤ message_limit;
  place : l.place < length l.self.lists;
}
