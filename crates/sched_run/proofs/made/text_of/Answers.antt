use Rattle.std.proofs.Common.{subst, sym}
use Rattle.sched_net.specs.Numbered.{event_by_numbers}
use Rattle.sched_run.specs.Naming.{HasEventNames}
use Rattle.sched_run.proofs.WrittenLemmas.{text_first, text_more, text_whole}
use Rattle.sched_run.proofs.made.text_of.Goals as goal

pub loop-event-init : goal.loop-event-init
loop-event-init c = record { text = text_first _ _ _ c.new-text.ensures.items; texts = c.in_ok-texts.ensures c.args.valid.now.view }

pub push_named-requires-clause-named : goal.push_named-requires-clause-named
push_named-requires-clause-named c =
    subst (λ event. HasEventNames c.args.valid.now.view (event_by_numbers event)) (sym c.event-item.is) (c.requires.named c.loop-event.event-index c.event-item.result c.loop-event-test.true)

pub loop-event-preserved : goal.loop-event-preserved
loop-event-preserved c =
    let line = c.in_ok-push_named.ensures.line in
    record {
      text = text_more c.args.valid.now.view c.args.events.now c.loop-event.event-index c.loop-event.text.items c.loop-event.invariant.text c.push_named.new.text.items c.event-item.result line.named c.requires.few c.loop-event-test.true c.event-item.is line.event_is line.printable line.small line.text;
      texts = c.in_ok-push_named.ensures.texts;
    }

pub returns : goal.returns
returns c = text_whole c.args.valid.now.view c.args.events.now c.loop-event.event-index c.loop-event.text.items c.loop-event.invariant.text c.loop-event-test.false
