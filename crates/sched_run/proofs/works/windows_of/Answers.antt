use Rattle.std.proofs.Common.{◌+◌, subst, sym, arith}
use Rattle.sched_run.proofs.WorksLemmas.{WindowsBelow, window_more, windows_all}
use Rattle.sched_run.proofs.works.windows_of.Goals as goal

pub loop-lane-preserved : goal.loop-lane-preserved
loop-lane-preserved c =
    subst (λ windows. WindowsBelow c.args.valid.now.view c.args.books.now c.args.lanes.now windows (c.loop-lane.lane-index + 1)) (sym c.in_ok-push.ensures.items)
    (window_more c.args.valid.now.view c.args.books.now c.args.lanes.now c.loop-lane.windows.items c.loop-lane.lane-index c.lane-item.result c.in_ok-window_of.field-0 c.loop-lane.invariant c.loop-lane-test.true c.lane-item.is c.in_ok-window_of.ensures)

pub returns : goal.returns
returns c =
    windows_all c.args.valid.now.view c.args.books.now c.args.lanes.now c.loop-lane.windows.items c.loop-lane.lane-index c.loop-lane.invariant (omega (arith, c.loop-lane-test.false, c.loop-lane.auto.lane-index-end))
