-- the seals of the partitions so far
use Rattle.messages.proofs.SealedSources.{IsSealedBy}
use Rattle.messages.proofs.lists.Lists.seal_partitions.Given as goal

abbrev pub invariant-loop-key : goal.invariant-loop-key
invariant-loop-key l = IsSealedBy l.fn.self l.self l.place l.columns l.key-iterator l.keys.keys
