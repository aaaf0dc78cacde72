-- the pairs so far
use Rattle.std.proofs.Common.{◌≡◌, take}
use Rattle.sched_turns.specs.Code.Levels.{halved}
use Rattle.sched_turns.proofs.levels.Level.above.Given as goal

abbrev pub invariant-loop-pair : goal.invariant-loop-pair
invariant-loop-pair l = l.sizes.items ≡ take l.pair (halved l.self)
