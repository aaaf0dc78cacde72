use Rattle.data_read.proofs.DistinctLemmas.{kept_distinct}
use Rattle.data_read.proofs.distinct.known_rows.Goals as goal

pub loop-row-preserved : goal.loop-row-preserved
loop-row-preserved c = kept_distinct c.loop-row.yielded c.in-Some.row c.loop-row.known.keys c.insert.new.self.keys c.loop-row.invariant c.in_ok-insert.ensures.keys
