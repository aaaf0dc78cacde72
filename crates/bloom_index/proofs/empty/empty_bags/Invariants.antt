-- so many bags that have nothing
use Rattle.bloom_index.specs.Code.Emptiness.{AreNoBags}
use Rattle.bloom_index.proofs.empty.empty_bags.Given as goal

abbrev pub invariant-loop : goal.invariant-loop
invariant-loop l = AreNoBags l.counter l.bags.items
