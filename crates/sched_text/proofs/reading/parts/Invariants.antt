-- the groups so far
use Rattle.std.proofs.Common.{◌-◌, vec_len}
use Rattle.sched_text.specs.Kinds.{part_limit}
use Rattle.sched_text.proofs.PartsLemmas.{AreRead}
use Rattle.sched_text.proofs.reading.parts.Given as goal

abbrev pub invariant-loop-alloc : goal.invariant-loop-alloc
invariant-loop-alloc l = AreRead l.fn.fields l.parts.items l.fields

abbrev pub decreases-loop-alloc : goal.decreases-loop-alloc
decreases-loop-alloc l = part_limit - vec_len l.parts
