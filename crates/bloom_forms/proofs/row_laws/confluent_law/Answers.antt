use Rattle.bloom_forms.proofs.Confluent.ConfluentLaw.{rules_confluent, all_confluent}
use Rattle.bloom_forms.proofs.row_laws.confluent_law.Goals as goal

pub returns-clause-rules : goal.returns-clause-rules
returns-clause-rules c = rules_confluent

pub returns-clause-outputs : goal.returns-clause-outputs
returns-clause-outputs c = all_confluent
