-- how many records of each partition stand among the messages so far
use Rattle.std.proofs.Common.{◌≡◌, take}
use Rattle.blz_value.specs.Record.{Row}
use Rattle.messages.specs.Emitted.{count_in}
use Rattle.messages.specs.Lists.{read_list, list_at}
use Rattle.messages.specs.EmittedCounts.{count_of}
use Rattle.messages.proofs.lists.Lists.tally_of.Given as goal

abbrev pub invariant-loop-index : goal.invariant-loop-index
invariant-loop-index l = record {
  columns : l.tally.columns ≡ l.columns;
  counts : (key : Row) → count_of l.tally.counts key ≡ count_in l.columns (read_list l.self.records (take l.index (list_at l.self.lists l.place))) key;
}
