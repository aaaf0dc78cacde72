use Rattle.std.proofs.Common.{take}
use Rattle.sched_net.specs.Code.Hearing.{KnowsMore}
use Rattle.sched_net.proofs.hearing.know_all.Given as goal

abbrev pub invariant-loop-index : goal.invariant-loop-index
invariant-loop-index l = KnowsMore l.fn.known (take l.index-index l.indexes) l.known
