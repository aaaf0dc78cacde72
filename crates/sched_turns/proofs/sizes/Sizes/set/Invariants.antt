-- the levels so far are those of the changed sizes, and the next one becomes so by one size
use Rattle.std.proofs.Common.{length, set}
use Rattle.sched_turns.proofs.LevelsLemmas.{SetsOn}
use Rattle.sched_turns.proofs.sizes.Sizes.set.Given as goal

abbrev pub invariant-loop-k : goal.invariant-loop-k
invariant-loop-k l = SetsOn l.fn.self (set l.fn.self l.fn.place l.fn.size) l.self-inside.levels.items (length l.initial.self-inside.levels.items) l.k l.place l.size
