-- the joined rows so far were added, or are still to be
use Rattle.std.proofs.Common.{◌≡◌, ◌++◌, List, take}
use Rattle.bloom_growth.specs.Code.Joins.{turned_rows}
use Rattle.blz_value.specs.Record.{Row}
use Rattle.blz_value.specs.Sets.{set_of}
use Rattle.blz_set.specs.Pairs.{lefts_of}
use Rattle.blz_set.specs.RecordSet.{IsRecordSet}
use Rattle.bloom_growth.specs.ByKey.{AreByKey}
use Rattle.bloom_growth.proofs.partners.join_to_left.Given as goal

abbrev pub invariant-loop-right : goal.invariant-loop-right
invariant-loop-right g l = record {
  set : IsRecordSet l.set;
  added : (lefts : List Row) → AreByKey (lefts_of l.pairs) lefts (g.S.RowsByKey.kept l.side).sets → set_of (l.set ++ l.rows.items) ≡ set_of (l.initial.set ++ turned_rows l.pairs lefts (take l.right-index l.right-items));
}
