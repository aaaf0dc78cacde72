-- the rows so far were taken
use Rattle.std.proofs.Common.{◌≡◌, ◌≤◌, ◌++◌, length, take}
use Rattle.blz_value.specs.Sets.{set_of}
use Rattle.blz_set.specs.Missing.{missing_from}
use Rattle.blz_set.specs.RecordSet.{row_limit}
use Rattle.bloom_growth.proofs.grow_set.GrowSet.take.Given as goal

abbrev pub invariant-loop-row : goal.invariant-loop-row
invariant-loop-row l = record {
  all : l.self ≡ set_of (l.fn.self ++ take l.row-index l.row-items);
  few : length l.self ≤ row_limit;
  fresh : l.fresh.items ≡ missing_from l.fn.self (take l.row-index l.row-items);
}
