use Rattle.std.proofs.Common.{◌<◌, ◌+◌, ◌∙◌, ap, subst, arith, length, List, ℕ}
use Rattle.std.specs.Prelude.{if◌then◌else◌}
use Rattle.messages.specs.declared.message.Message.{Message as IdMessage}
use Rattle.messages.specs.Lists.{message_limit}
use Rattle.messages.specs.EmittedCounts.{count_of}
use Rattle.messages.specs.EmittedIds.{counts_row}
use Rattle.messages.proofs.LentLists.{row_given}
use Rattle.messages.proofs.ListSeals.{count-small, counted_row}
use Rattle.messages.proofs.lists.Lists.tally_of.Goals as goal

pub count_row-requires-clause-given : goal.count_row-requires-clause-given
count_row-requires-clause-given c = row_given c.args.self.now.records c.list-list.result c.loop-index.index c.row.result c.list-list.ensures.given (omega (arith, c.loop-index-test.true, c.len-index-end.ensures)) c.row.ensures

pub count_row-requires-clause-room : goal.count_row-requires-clause-room
count_row-requires-clause-room c = λ key.
    let small : count_of c.loop-index.tally.counts key < message_limit =
    count-small c.args.self.now c.args.place c.loop-index.index (count_of c.loop-index.tally.counts key) c.args.columns.now key (c.loop-index.invariant.counts key)
    (subst (λ (l : List IdMessage). c.loop-index.index < length l) c.list-list.ensures.list (omega (arith, c.loop-index-test.true, c.len-index-end.ensures))) c.requires c.known.ensures.few in
    omega (arith, small)

pub loop-index-preserved : goal.loop-index-preserved
loop-index-preserved c = record {
  columns = c.count_row.ensures.columns ∙ c.loop-index.invariant.columns;
  counts = λ key.
      counted_row c.args.self.now c.args.place c.loop-index.index c.list-list.result c.row.result c.args.columns.now key
      (count_of c.loop-index.tally.counts key) (count_of c.count_row.new.tally.counts key)
      c.list-list.ensures.list (omega (arith, c.loop-index-test.true, c.len-index-end.ensures)) c.row.ensures (c.loop-index.invariant.counts key)
      (c.in_ok-count_row.ensures.counts key
      ∙ ap (λ (columns : List ℕ). count_of c.loop-index.tally.counts key + (if counts_row c.args.self.now.records columns key c.row.result then 1 else 0)) c.loop-index.invariant.columns);
}
