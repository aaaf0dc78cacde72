-- the levels so far, and the next one
use Rattle.std.proofs.Common.{◌≡◌, length}
use Rattle.sched_turns.specs.Code.Levels.{level_of}
use Rattle.sched_turns.proofs.LevelsLemmas.{Leads}
use Rattle.sched_turns.proofs.sizes.Sizes.of.Given as goal

abbrev pub invariant-loop-alloc : goal.invariant-loop-alloc
invariant-loop-alloc l = record {
  leads : Leads l.fn.sizes.items l.levels.items;
  next : l.level ≡ level_of l.fn.sizes.items (length l.levels.items);
}

abbrev pub decreases-loop-alloc : goal.decreases-loop-alloc
decreases-loop-alloc l = length l.level
