-- the tweets so far
use Rattle.std.proofs.Common.{◌≡◌}
use Rattle.blazes_commands.specs.Soak.{tweets}
use Rattle.blazes_commands.proofs.batches.tweets.Given as goal

abbrev pub invariant-loop-batch : goal.invariant-loop-batch
invariant-loop-batch l = l.rows.items ≡ tweets l.batch
