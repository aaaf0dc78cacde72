use Rattle.bloom_forms.proofs.Ports.PortsLaw.{outputs_see, stock_silent}
use Rattle.bloom_forms.proofs.Ports.Rules.{rules_see}
use Rattle.bloom_forms.proofs.row_laws.ports_law.Goals as goal

pub returns-clause-rules : goal.returns-clause-rules
returns-clause-rules c = rules_see

pub returns-clause-outputs : goal.returns-clause-outputs
returns-clause-outputs c = outputs_see

pub returns-clause-stock : goal.returns-clause-stock
returns-clause-stock c = stock_silent
