-- the number of those so far that aren't given
use Rattle.std.proofs.Common.{◌≡◌, ◌≤◌, List, length, take}
use Rattle.blz_value.specs.Record.{Row}
use Rattle.blz_set.specs.Missing.{missing_from}
use Rattle.bloom_growth.specs.Bags.{IsBag}
use Rattle.bloom_growth.proofs.bag.Bag.missing.Given as goal

abbrev pub invariant-loop-row : goal.invariant-loop-row
invariant-loop-row l = record {
  few : l.count ≤ l.row-index;
  all : (rows : List Row) → IsBag rows l.self → l.count ≡ length (missing_from rows (take l.row-index l.row-items));
}
