use Rattle.inbox.proofs.SourceKeys.{key_more}
use Rattle.inbox.proofs.sources.keys_of.Goals as goal

pub loop-row-preserved : goal.loop-row-preserved
loop-row-preserved c =
    key_more c.args.columns.now c.args.rows.now c.loop-row.row-index c.row-item.result c.in_ok-key_of.field-0 c.loop-row.keys.keys c.insert.new.self.keys
    c.loop-row-test.true c.row-item.is c.in_ok-key_of.ensures c.loop-row.invariant c.in_ok-insert.ensures.keys
