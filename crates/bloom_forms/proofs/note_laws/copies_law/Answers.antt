use Rattle.bloom_forms.proofs.Copies.AllOrigins.{outputs_origins}
use Rattle.bloom_forms.proofs.Copies.ModuleOrigins.{module_expressions, module_rules}
use Rattle.bloom_forms.proofs.note_laws.copies_law.Goals as goal

pub returns-clause-expressions : goal.returns-clause-expressions
returns-clause-expressions c = module_expressions

pub returns-clause-rules : goal.returns-clause-rules
returns-clause-rules c = module_rules

pub returns-clause-outputs : goal.returns-clause-outputs
returns-clause-outputs c = outputs_origins
