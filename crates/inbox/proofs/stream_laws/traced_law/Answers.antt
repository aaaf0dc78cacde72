use Rattle.inbox.proofs.Records.TracedLaw as tracing
use Rattle.inbox.proofs.stream_laws.traced_law.Goals as goal

pub returns-clause-wide : goal.returns-clause-wide
returns-clause-wide c = tracing.width_law

pub returns-clause-traced : goal.returns-clause-traced
returns-clause-traced c = tracing.traced_law
