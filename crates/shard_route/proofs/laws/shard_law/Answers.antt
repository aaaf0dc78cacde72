use Rattle.shard_route.proofs.ShardLaw.{answers_together}
use Rattle.shard_route.proofs.laws.shard_law.Goals as goal

pub returns : goal.returns
returns c = answers_together
