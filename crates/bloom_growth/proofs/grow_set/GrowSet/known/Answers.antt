use Rattle.std.proofs.Common.{subst}
use Rattle.blz_set.specs.RecordSet.{IsRecordSet}
use Rattle.bloom_growth.proofs.GrowOne.{order_is_set}
use Rattle.bloom_growth.proofs.grow_set.GrowSet.known.Goals as goal

pub returns : goal.returns
returns c = subst IsRecordSet c.self.view_is (order_is_set c.self.inside.rows.keys c.self.invariant)
