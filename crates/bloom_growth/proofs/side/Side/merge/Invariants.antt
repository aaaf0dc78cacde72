-- the entries so far went in, and the others are to come
use Rattle.std.proofs.Common.{◌≡◌, ◌++◌}
use Rattle.std.specs.List.Sorted.{IsStrictlySortedBy}
use Rattle.std.specs.Map.{keys_of}
use Rattle.blz_value.specs.Record.{Row, record_cmp}
use Rattle.blz_value.specs.Sets.{set_of}
use Rattle.bloom_growth.specs.ByKey.{rows_found}
use Rattle.bloom_growth.specs.Code.Sides.{HaveRowSets}
use Rattle.bloom_growth.proofs.MergedLemmas.{ComesTo}
use Rattle.bloom_growth.proofs.side.Side.merge.Given as goal

abbrev pub invariant-loop-key : goal.invariant-loop-key
invariant-loop-key l = record {
  columns : l.self.columns ≡ l.fn.self.columns;
  sorted : IsStrictlySortedBy record_cmp (keys_of l.key-iterator);
  rows : HaveRowSets l.fn.self.sets → (q : Row) → ComesTo l.self.sets l.key-iterator q (set_of (rows_found l.fn.self.sets q ++ rows_found l.fn.more q));
}
