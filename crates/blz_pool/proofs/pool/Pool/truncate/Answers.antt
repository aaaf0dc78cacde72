use Rattle.blz_pool.proofs.Records.{IsPool-first}
use Rattle.blz_pool.proofs.pool.Pool.truncate.Goals as goal

pub invariant_of-self : goal.invariant_of-self
invariant_of-self c = rw c.truncate.ensures.keys (IsPool-first c.self.inside.records.keys c.args.count c.self.invariant)
