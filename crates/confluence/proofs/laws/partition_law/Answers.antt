use Rattle.confluence.proofs.Honest.PartitionLaw.{partitions_of_rules, partitions_of_outputs}
use Rattle.confluence.proofs.laws.partition_law.Goals as goal

pub returns-clause-rules : goal.returns-clause-rules
returns-clause-rules c = partitions_of_rules

pub returns-clause-outputs : goal.returns-clause-outputs
returns-clause-outputs c = partitions_of_outputs
