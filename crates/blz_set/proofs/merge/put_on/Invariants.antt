-- what was put on, with what is left, is the whole
use Rattle.std.proofs.Common.{◌≡◌, ◌+◌, ◌≤◌, ◌++◌, length, vec_capacity}
use Rattle.blz_set.specs.Code.Blocks.{rows_after}
use Rattle.blz_set.proofs.merge.put_on.Given as goal

abbrev pub invariant-loop : goal.invariant-loop
invariant-loop l = record {
  whole : l.rows.items ++ rows_after l.blocks.items ≡ l.fn.rows.items ++ rows_after l.fn.blocks.items;
  left : length l.blocks.items + l.counter ≡ length l.fn.blocks.items;
  room : vec_capacity l.fn.rows ≤ vec_capacity l.rows;
}
