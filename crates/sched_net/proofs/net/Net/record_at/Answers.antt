use Rattle.std.proofs.Common.{◌∙◌}
use Rattle.sched_net.proofs.EmittedSeen.{seen_row}
use Rattle.sched_net.proofs.net.Net.record_at.Goals as goal

pub returns-clause-record : goal.returns-clause-record
returns-clause-record g c sends given steps stand =
    c.row_at.ensures
    ∙ seen_row c.args.self.now.valid.now.view given steps c.args.self.now.books stand c.known.ensures c.args.stream c.args.replica sends c.messages-messages.result c.messages-messages.ensures.list c.args.index
