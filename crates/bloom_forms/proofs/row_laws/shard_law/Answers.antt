use Rattle.bloom_forms.proofs.Shard.ShardLaw.{answers_by_bucket}
use Rattle.bloom_forms.proofs.row_laws.shard_law.Goals as goal

pub returns : goal.returns
returns c = answers_by_bucket
