use Rattle.std.proofs.Common.{subst}
use Rattle.messages.specs.Whole.{feeds_view, partitions, key_at}
use Rattle.messages.specs.declared.feeds.Feeds.{Feeds}
use Rattle.inbox.specs.Code.Batches.{HearsIf}
use Rattle.inbox.proofs.Keeping.Batches.{hears_record}
use Rattle.inbox.proofs.inbox.Inbox.hear_row.Goals as goal

pub returns-clause-hears : goal.returns-clause-hears
returns-clause-hears c =
    let kept = c.in_ok-keep.ensures in
    let counted = c.in_ok-count.ensures in
    hears_record c.args.self.now c.keep.new.self c.count.new.self c.args.feed c.args.id c.port_of-port.result (key_at (partitions c.args.self.now.feeds) c.args.touched.number) c.args.touched.waits
    c.port_of-port.ensures kept.mode kept.feeds kept.kept kept.idle counted.mode
    (subst (λ (f : Feeds). HearsIf (feeds_view c.keep.new.self.feeds) (feeds_view c.count.new.self.feeds) c.args.feed (key_at (partitions f) c.args.touched.number) c.args.id) kept.feeds counted.feeds)
    counted.waiting
