-- the lists before this one are emptied, and the others as they were
use Rattle.std.proofs.Common.{◌≡◌, ◌≤◌}
use Rattle.messages.specs.Lists.{total}
use Rattle.messages.proofs.PlacingLemmas.{AreEmptied}
use Rattle.messages.proofs.placing.empty_from.Given as goal

abbrev pub invariant-loop-place : goal.invariant-loop-place
invariant-loop-place l = record {
  first : l.first ≤ l.place;
  emptied : AreEmptied l.first l.place l.fn.lists.items l.lists.items l.fn.tallies.items l.tallies.items;
  count : l.count ≡ total l.lists.items;
  fewer : l.count ≤ l.fn.count;
}
