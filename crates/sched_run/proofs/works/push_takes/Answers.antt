use Rattle.std.proofs.Common.{◌+◌, get_or, take, subst, sym}
use Rattle.std.proofs.lemmas.List.{get_or_default, take_all}
use Rattle.sched_run.specs.Code.Works.{AreSizesWith}
use Rattle.sched_run.proofs.WorksLemmas.{no_taker, take_more_sizes}
use Rattle.sched_run.proofs.works.push_takes.Goals as goal

pub loop-taker-preserved : goal.loop-taker-preserved
loop-taker-preserved c =
    subst (AreSizesWith c.args.valid.now.view c.args.books.now c.args.sizes.now.items (take (c.loop-taker.taker-index + 1) c.args.takers.now)) (sym c.in_ok-push.ensures.items)
    (take_more_sizes c.args.valid.now.view c.args.books.now c.args.sizes.now.items c.args.takers.now c.loop-taker.sizes.items c.loop-taker.taker-index c.from.result (get_or c.args.takers.now c.loop-taker.taker-index no_taker) c.can_take.result c.loop-taker.invariant c.loop-taker-test.true (get_or_default c.args.takers.now c.loop-taker.taker-index no_taker (get_or c.args.takers.now c.loop-taker.taker-index no_taker) c.loop-taker-test.true) c.can_take.ensures c.from.ensures)

pub returns : goal.returns
returns c =
    subst (λ who. AreSizesWith c.args.valid.now.view c.args.books.now c.args.sizes.now.items who c.loop-taker.sizes.items) (take_all c.loop-taker.taker-index c.args.takers.now c.loop-taker-test.false) c.loop-taker.invariant
