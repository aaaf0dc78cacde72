use Rattle.blz_boxes.proofs.LatestRows.{asked_is}
use Rattle.blz_boxes.proofs.latest_table.LatestTable.asked.Goals as goal

pub returns : goal.returns
returns c =
    let table = c.args.self.now in
    rw (← asked_is table.columns.items table.records c.args.keys.now table.ordered table.have_keys, ← c.in_ok-found.ensures) c.from_rows.ensures
