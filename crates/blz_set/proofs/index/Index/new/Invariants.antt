-- the entries so far
use Rattle.std.proofs.Common.{◌≡◌, take}
use Rattle.blz_set.specs.Code.Entry.{rows_of}
use Rattle.blz_set.specs.Code.Index.{HaveKeys}
use Rattle.blz_set.proofs.index.Index.new.Given as goal

abbrev pub invariant-loop-row : goal.invariant-loop-row
invariant-loop-row l = record {
  rows : rows_of l.entries.items ≡ take l.row-index l.rows;
  keys : HaveKeys l.columns l.entries.items;
}
