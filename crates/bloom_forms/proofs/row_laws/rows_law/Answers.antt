use Rattle.bloom_forms.proofs.Confluent.ConfluentLaw.{one_step_answers}
use Rattle.bloom_forms.proofs.Ports.Outputs.{outputs_by_rules}
use Rattle.bloom_forms.proofs.row_laws.rows_law.Goals as goal

pub returns-clause-answers : goal.returns-clause-answers
returns-clause-answers c = one_step_answers

pub returns-clause-rules : goal.returns-clause-rules
returns-clause-rules c = outputs_by_rules
