use Rattle.std.proofs.Common.{arith, subst, sym}
use Rattle.sched_net.specs.Numbered.{event_by_numbers}
use Rattle.sched_run.specs.Naming.{HasEventNames}
use Rattle.sched_run.proofs.WrittenLemmas.{lines_first, lines_more, lines_whole}
use Rattle.sched_run.proofs.made.lines_of.Goals as goal

pub loop-place-init : goal.loop-place-init
loop-place-init c = lines_first _ _ _ c.new-lines.ensures.items

pub named-requires : goal.named-requires
named-requires c =
    subst (λ event. HasEventNames c.args.valid.now.view (event_by_numbers event)) (sym c.index-events-place.is) (c.requires.named c.loop-place.place c.index-events-place.result c.loop-place-test.true)

pub loop-place-preserved : goal.loop-place-preserved
loop-place-preserved c =
    lines_more c.args.valid.now.view c.args.events.now c.loop-place.place c.loop-place.lines.items c.loop-place.invariant _ _ c.index-events-place.result c.in_ok-named.field-0 c.requires.few c.loop-place-test.true c.index-events-place.is (omega arith) c.in_ok-named.ensures.event c.in_ok-named.ensures.printable c.in_ok-push.ensures.items

pub returns-clause-lines : goal.returns-clause-lines
returns-clause-lines c = c.loop-place.invariant.lined

pub returns-clause-events : goal.returns-clause-events
returns-clause-events c = lines_whole c.args.valid.now.view c.args.events.now c.loop-place.place c.loop-place.lines.items c.loop-place.invariant c.loop-place-test.false
