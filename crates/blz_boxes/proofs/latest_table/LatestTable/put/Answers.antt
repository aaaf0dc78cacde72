use Rattle.std.proofs.Common.{rules, ◌≡◌, ap, length, arith}
use Rattle.std.specs.BTreeMap.{btree_map_len}
use Rattle.blz_value.specs.Record.{Row}
use Rattle.bloom_forms.specs.StockSteps.{latest_kept}
use Rattle.blz_boxes.specs.Code.KeptRecords.{records_of}
use Rattle.blz_boxes.proofs.Records.{count_records}
use Rattle.blz_boxes.proofs.latest_table.LatestTable.put.Goals as goal

pub returns-then-len-gt-ROW_LIMIT-clause-too_many : goal.returns-then-len-gt-ROW_LIMIT-clause-too_many
returns-then-len-gt-ROW_LIMIT-clause-too_many c =
    let kept : records_of c.put_all.new.records ≡ latest_kept c.args.self.now.columns.items (records_of c.args.self.now.records) c.args.rows.now = search rules in
    let count : length (records_of c.put_all.new.records) ≡ btree_map_len c.put_all.new.records = count_records c.deref.result.now c.put_all.new.records c.len.ensures.ordered c.in_ok-put_all.ensures.have_keys in
    λ _. omega (arith, ap (length {A = Row}) kept, count)

pub returns-clause-few : goal.returns-clause-few
returns-clause-few c =
    let count : length (records_of c.put_all.new.records) ≡ btree_map_len c.put_all.new.records = count_records c.deref.result.now c.put_all.new.records c.len.ensures.ordered c.in_ok-put_all.ensures.have_keys in
    omega (arith, count)
