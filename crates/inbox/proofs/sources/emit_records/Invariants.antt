-- the records so far
use Rattle.std.proofs.Common.{◌≡◌, ◌<◌, ◌++◌, length, take}
use Rattle.messages.specs.Lists.{OneListBecomes, IsExact, read_lists, list_at}
use Rattle.inbox.specs.Emission.{with_rows}
use Rattle.inbox.proofs.sources.emit_records.Given as goal

abbrev pub invariant-loop-row : goal.invariant-loop-row
invariant-loop-row l = record {
  all : l.yielded ++ l.row-iterator.rest.items ≡ l.fn.rows.items;
  becomes : OneListBecomes l.fn.lists l.lists l.place (with_rows (list_at (read_lists l.fn.lists) l.place) (take (length l.yielded) l.fn.rows.items));
  exact : IsExact l.lists;
  place : l.place < length l.lists.lists;
}
