-- the places so far were looked at
use Rattle.std.proofs.Common.{take}
use Rattle.sched_run.specs.Code.Works.{LookedFor}
use Rattle.sched_run.proofs.works.Works.look_at.Given as goal

abbrev pub invariant-loop-place : goal.invariant-loop-place
invariant-loop-place l = LookedFor l.valid.view l.books l.fn.self l.self (take l.place-index l.places)
