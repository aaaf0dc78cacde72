use Rattle.bloom_forms.proofs.Split.KeysLaw.{rules_keep_keys, outputs_keep_keys}
use Rattle.bloom_forms.proofs.row_laws.keys_law.Goals as goal

pub returns-clause-rules : goal.returns-clause-rules
returns-clause-rules c = rules_keep_keys

pub returns-clause-outputs : goal.returns-clause-outputs
returns-clause-outputs c = outputs_keep_keys
