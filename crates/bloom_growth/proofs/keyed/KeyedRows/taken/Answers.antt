use Rattle.std.proofs.Common.{[], ap, unwrap_or}
use Rattle.bloom_growth.proofs.SidesLemmas.{apart}
use Rattle.bloom_growth.proofs.keyed.KeyedRows.taken.Goals as goal

pub returns-in-Some-clause-left : goal.returns-in-Some-clause-left
returns-in-Some-clause-left c = λ other different. ap (λ o. unwrap_or o []) (c.remove.ensures.updates.2 other (apart c.args.key.now other different))
