-- the sizes of the takers so far
use Rattle.std.proofs.Common.{take}
use Rattle.sched_run.specs.Code.Works.{AreSizesWith}
use Rattle.sched_run.proofs.works.push_takes.Given as goal

abbrev pub invariant-loop-taker : goal.invariant-loop-taker
invariant-loop-taker l = AreSizesWith l.valid.view l.books l.fn.sizes.items (take l.taker-index l.takers) l.sizes.items
