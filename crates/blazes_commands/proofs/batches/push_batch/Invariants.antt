-- the tweets so far
use Rattle.std.proofs.Common.{◌≡◌, ◌++◌, map}
use Rattle.blz_value.specs.NumberSets.{below}
use Rattle.blazes_commands.specs.Soak.{tweet}
use Rattle.blazes_commands.proofs.batches.push_batch.Given as goal

abbrev pub invariant-loop-place : goal.invariant-loop-place
invariant-loop-place l = l.rows.items ≡ l.initial.rows.items ++ map (tweet l.batch) (below l.place)
