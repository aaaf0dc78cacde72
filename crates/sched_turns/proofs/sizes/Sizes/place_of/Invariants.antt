-- the number stands so in the level above those that are left
use Rattle.sched_turns.specs.Sizes.{IsPlaceOf}
use Rattle.sched_turns.specs.Code.Levels.{level_of}
use Rattle.sched_turns.proofs.sizes.Sizes.place_of.Given as goal

abbrev pub invariant-loop-k : goal.invariant-loop-k
invariant-loop-k l = IsPlaceOf (level_of l.self l.k) l.number l.place l.rest
