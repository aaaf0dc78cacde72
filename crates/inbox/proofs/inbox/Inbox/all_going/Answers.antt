use Rattle.std.proofs.Common.{◌<◌, ◌∙◌, ◌++◌, ap, List, ℕ, filter, subst, sym}
use Rattle.blz_pool.specs.Entries.{EntryId}
use Rattle.messages.specs.Whole.{feeds_view}
use Rattle.messages.specs.declared.message.Message.{Message}
use Rattle.inbox.specs.Inbox.{feeds_in}
use Rattle.inbox.specs.Code.Batches.{goes_in, entry_ids_of}
use Rattle.inbox.proofs.Keeping.Loops.{going_step, take_whole}
use Rattle.inbox.proofs.Keeping.Touching.{going_at}
use Rattle.inbox.proofs.inbox.Inbox.all_going.Goals as goal

pub entry_going-entry-requires : goal.entry_going-entry-requires
entry_going-entry-requires c = subst (λ (p : ℕ × Message). p.0 < feeds_in c.args.self.now) (sym c.index-batch-at.is) (c.requires.feeds c.loop-at.at c.index-batch-at.result c.loop-at-test.true)

pub loop-at-preserved : goal.loop-at-preserved
loop-at-preserved c = λ records touched.
    let x = c.args.self.now in
    let pair = c.index-batch-at.result in
    let one = going_at records x c.args.batch.now c.args.touched.now c.loop-at.at pair _ c.entry_going-entry.result c.loop-at-test.true c.index-batch-at.is touched c.entry_going-entry.ensures in
    going_step (feeds_view x.feeds) (goes_in records x) c.args.batch.now c.loop-at.at pair c.loop-at.going.items c.push_some.new.items.items
    c.loop-at-test.true c.index-batch-at.is (c.in_ok-push_some.ensures ∙ ap (λ (l : List EntryId). c.loop-at.going.items ++ l) one) (c.loop-at.invariant records touched)

pub returns : goal.returns
returns c = λ records touched.
    c.loop-at.invariant records touched
    ∙ ap (λ (l : List (ℕ × Message)). filter (goes_in records c.args.self.now) (entry_ids_of (feeds_view c.args.self.now.feeds) l)) (take_whole c.args.batch.now c.loop-at.at c.loop-at-test.false)
