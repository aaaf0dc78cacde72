use Rattle.std.proofs.Common.{refl}
use Rattle.sched_run.proofs.LookingLemmas.{tells_take}
use Rattle.sched_run.proofs.looking.can_take.Goals as goal

pub returns : goal.returns
returns c =
    tells_take c.args.valid.now.view c.args.books.now c.args.taker c.requires.taker c.seat_at.result.now c.index.result.now c.taken-taken.result c.len.result _ c.seat_at.ensures c.index.ensures c.taken-taken.ensures c.len.ensures.count refl
