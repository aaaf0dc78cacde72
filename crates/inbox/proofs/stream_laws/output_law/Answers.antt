use Rattle.inbox.proofs.Records.CopiedLaw as copied
use Rattle.inbox.proofs.Records.RowsLaw as rows
use Rattle.inbox.proofs.stream_laws.output_law.Goals as goal

pub returns-clause-copied : goal.returns-clause-copied
returns-clause-copied c = copied.copied_law

pub returns-clause-rows : goal.returns-clause-rows
returns-clause-rows c = rows.rows_law
