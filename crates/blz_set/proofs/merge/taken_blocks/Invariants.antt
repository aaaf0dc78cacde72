-- the rows with the blocks are what was there before, and with those that are still to come the whole
use Rattle.std.proofs.Common.{◌≡◌, ◌+◌, ◌≤◌, ◌++◌, length, vec_capacity}
use Rattle.blz_value.specs.Sets.{set_of, IsRowSet}
use Rattle.blz_set.specs.Code.Blocks.{rows_before, rows_after}
use Rattle.blz_set.proofs.merge.taken_blocks.Given as goal

abbrev pub invariant-loop : goal.invariant-loop
invariant-loop l = record {
  rows : IsRowSet l.rows.items;
  more : IsRowSet l.more.items;
  before : l.rows.items ++ rows_before l.blocks.items ≡ l.fn.rows.items;
  whole : set_of (l.rows.items ++ l.more.items) ++ rows_after l.blocks.items ≡ set_of (l.fn.rows.items ++ l.fn.more.items);
  left : length l.more.items + l.counter ≡ length l.fn.more.items;
  few : length l.blocks.items + length l.more.items ≤ vec_capacity l.blocks;
  room : vec_capacity l.rows ≡ vec_capacity l.fn.rows;
}
