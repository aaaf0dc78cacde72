use Rattle.std.proofs.Common.{◌∙◌, arith}
use Rattle.bloom_growth.proofs.TurnNotIns.{key_more}
use Rattle.bloom_growth.proofs.turn_notins.keys_of.Goals as goal

pub loop-row-preserved : goal.loop-row-preserved
loop-row-preserved c =
    c.in_ok-insert.ensures.rows
    ∙ key_more c.args.columns.now c.rows-row-items.result.now c.loop-row.keys c.loop-row.row-index c.row-item.result c.in_ok-copy_cells.field-0 (omega arith) c.row-item.is c.in_ok-copy_cells.ensures c.loop-row.invariant
