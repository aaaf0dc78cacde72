-- what is kept after the records so far
use Rattle.std.proofs.Common.{◌≡◌, take}
use Rattle.bloom_forms.specs.StockSteps.{latest_kept}
use Rattle.blz_boxes.specs.Code.KeptRecords.{HaveKeys, records_of}
use Rattle.blz_boxes.proofs.latest_table.put_all.Given as goal

abbrev pub invariant-loop-row : goal.invariant-loop-row
invariant-loop-row l = HaveKeys l.columns l.records × (records_of l.records ≡ latest_kept l.columns (records_of l.fn.records) (take l.row-index l.rows))
