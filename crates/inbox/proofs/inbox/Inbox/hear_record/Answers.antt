use Rattle.messages.specs.Whole.{feeds_view, partitions}
use Rattle.inbox.proofs.Keeping.Batches.{keeps-row, from-record, count-if}
use Rattle.inbox.proofs.inbox.Inbox.hear_record.Goals as goal

pub returns-clause-count : goal.returns-clause-count
returns-clause-count c = count-if (feeds_view c.args.self.now.feeds) (feeds_view c.hear_row.new.self.feeds) c.args.feed c.args.id _ c.in_ok-hear_row.ensures.hears.feeds

pub returns-clause-keeps : goal.returns-clause-keeps
returns-clause-keeps c = λ i waits heard said s.
    keeps-row i c.args.pool.now waits heard c.args.self.now c.hear_row.new.self s c.args.feed c.requires.feed (partitions c.args.self.now.feeds) c.args.touched c.args.id c.in_ok-hear_row.ensures.hears c.requires.given c.known.ensures said

pub returns-clause-from : goal.returns-clause-from
returns-clause-from c = λ from.
    from-record c.args.pool.now c.args.self.now c.hear_row.new.self c.args.feed c.args.id _ c.args.touched.waits c.in_ok-hear_row.ensures.hears c.requires.given from
