-- the joined rows so far were added, or are still to be
use Rattle.std.proofs.Common.{◌≡◌, ◌++◌, List, take}
use Rattle.blz_value.specs.Operators.{join_rows}
use Rattle.blz_value.specs.Record.{Row}
use Rattle.blz_value.specs.Sets.{set_of}
use Rattle.blz_set.specs.Pairs.{rights_of}
use Rattle.blz_set.specs.RecordSet.{IsRecordSet}
use Rattle.bloom_growth.specs.ByKey.{AreByKey}
use Rattle.bloom_growth.proofs.partners.join_to_right.Given as goal

abbrev pub invariant-loop-left : goal.invariant-loop-left
invariant-loop-left g l = record {
  set : IsRecordSet l.set;
  added : (rights : List Row) → AreByKey (rights_of l.pairs) rights (g.S.RowsByKey.kept l.side).sets → set_of (l.set ++ l.rows.items) ≡ set_of (l.initial.set ++ join_rows l.pairs (take l.left-index l.left-items) rights);
}
