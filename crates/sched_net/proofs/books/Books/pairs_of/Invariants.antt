use Rattle.std.proofs.Common.{◌<◌, length, take}
use Rattle.std.specs.List.{All}
use Rattle.messages.specs.Ids.{IsGiven}
use Rattle.inbox.specs.Wiring.{feeds_for}
use Rattle.sched_net.specs.Code.Parts.{ArePairs}
use Rattle.sched_net.proofs.books.Books.pairs_of.Given as goal

abbrev pub invariant-loop-part : goal.invariant-loop-part
invariant-loop-part l = record {
  so_far : ArePairs l.valid.view l.self l.component l.replica (take l.part-index l.parts) l.pairs.items l.indexes.items;
  feeds : All (λ pair. pair.0 < length (feeds_for l.valid.view l.component l.replica)) l.pairs.items;
  given : All (λ pair. IsGiven l.self.lists.records pair.1) l.pairs.items;
}
