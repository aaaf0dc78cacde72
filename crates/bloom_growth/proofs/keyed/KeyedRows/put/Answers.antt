use Rattle.std.proofs.Common.{[], ap, unwrap_or}
use Rattle.bloom_growth.proofs.SidesLemmas.{apart}
use Rattle.bloom_growth.proofs.keyed.KeyedRows.put.Goals as goal

pub returns-in_ok-insert-clause-left : goal.returns-in_ok-insert-clause-left
returns-in_ok-insert-clause-left c = λ other different. ap (λ o. unwrap_or o []) (c.in_ok-insert.ensures.updates.2 other (apart c.args.key other different))
