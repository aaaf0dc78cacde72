use Rattle.std.proofs.Common.{◌∙◌}
use Rattle.sched_net.proofs.EmittedSeen.{seen_count}
use Rattle.sched_net.proofs.RecordsCounted.{count-is_record}
use Rattle.sched_net.proofs.net.Net.record_count.Goals as goal

pub returns-clause-count : goal.returns-clause-count
returns-clause-count g c sends given steps stand =
    c.count_records.ensures
    ∙ count-is_record c.args.self.now.books.lists.records c.messages.result
    ∙ seen_count c.args.self.now.valid.now.view given steps c.args.self.now.books stand c.known.ensures c.args.stream c.args.replica sends c.messages.result c.messages.ensures.list
