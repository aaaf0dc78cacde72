use Rattle.std.specs.BTreeMap.{values}
use Rattle.blz_boxes.specs.Code.KeptRecords.{records_of}
use Rattle.bloom_forms.proofs.Ends.StockStanding.{kept_first}
use Rattle.blz_boxes.proofs.LatestRows.{put_at}
use Rattle.blz_boxes.proofs.latest_table.put_all.Goals as goal

pub loop-row-init : goal.loop-row-init
loop-row-init c = (c.requires.have_keys, kept_first c.args.columns.now (values c.args.records.now))

pub loop-row-preserved : goal.loop-row-preserved
loop-row-preserved c =
    let inserted = c.in_ok-insert.ensures in
    put_at c.args.columns.now (records_of c.args.records.now) c.args.rows.now c.loop-row.row-index c.row-item.result c.in_ok-key_of.field-0 c.in_ok-copy.field-0 c.loop-row.records c.insert.new.self c.in_ok-key_of.ensures c.in_ok-copy.ensures inserted.updates.0 c.requires.sorted c.loop-row-test.true c.row-item.is inserted.was_ordered inserted.ordered c.loop-row.invariant.0 c.loop-row.invariant.1
