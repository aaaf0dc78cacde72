use Rattle.inbox.proofs.Dependencies.KeyLaw as keys
use Rattle.inbox.proofs.Streams.CarriedKeys as carried
use Rattle.inbox.proofs.stream_laws.key_law.Goals as goal

pub returns-clause-streams : goal.returns-clause-streams
returns-clause-streams c = carried.stream_key_law

pub returns-clause-ports : goal.returns-clause-ports
returns-clause-ports c = carried.port_key_law

pub returns-clause-rows : goal.returns-clause-rows
returns-clause-rows c = keys.key_law

pub returns-clause-instances : goal.returns-clause-instances
returns-clause-instances c = keys.entry_key_law

pub returns-clause-carried : goal.returns-clause-carried
returns-clause-carried c = carried.carried_law
