use Rattle.std.proofs.Common.{◌≡◌, [], None, replicate}
use Rattle.messages.proofs.lists.Lists.new.Given as goal

abbrev pub invariant-loop : goal.invariant-loop
invariant-loop l = record {
  lists : l.lists.items ≡ replicate l.counter [];
  tallies : l.tallies.items ≡ replicate l.counter None;
}
