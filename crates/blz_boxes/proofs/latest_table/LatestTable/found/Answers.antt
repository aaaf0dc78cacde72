use Rattle.std.proofs.Common.{rules, Some, None}
use Rattle.std.specs.BTreeMap.{get}
use Rattle.blz_value.specs.Record.{record_cmp}
use Rattle.blz_boxes.proofs.LatestRows.{found_more}
use Rattle.blz_boxes.proofs.latest_table.LatestTable.found.Goals as goal
use Rattle.blz_boxes.proofs.latest_table.LatestTable.found.Goals.{in-Some+in_ok-copy+in_ok-push, in_default}

pub loop-key-preserved : goal.loop-key-preserved
loop-key-preserved c =
    let records = c.args.self.now.records in
    elim c.match-get.branch [
      | in-Some+in_ok-copy+in_ok-push w ↦ found_more (get record_cmp records) c.args.keys.now c.loop-key.key-index c.key-item.result (Some w.in_ok-copy.field-0) c.loop-key.rows.items c.match-get.rows.items c.loop-key-test.true c.key-item.is (search rules) c.loop-key.invariant (search rules)
      | in_default w ↦ found_more (get record_cmp records) c.args.keys.now c.loop-key.key-index c.key-item.result None c.loop-key.rows.items c.match-get.rows.items c.loop-key-test.true c.key-item.is (search rules) c.loop-key.invariant (search rules)
    ]
