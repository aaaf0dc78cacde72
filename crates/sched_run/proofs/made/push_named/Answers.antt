use Rattle.sched_net.specs.Numbered.{event_by_numbers}
use Rattle.sched_run.specs.Code.Written.{event_named}
use Rattle.sched_run.proofs.NamesLemmas.{named_numbered, named_printable}
use Rattle.sched_run.proofs.WrittenLemmas.{adds_line}
use Rattle.sched_run.proofs.made.push_named.Goals as goal

pub returns-clause-line : goal.returns-clause-line
returns-clause-line c =
    let valid = c.args.valid.now in
    let event = c.args.event.now in
    adds_line valid.view (event_by_numbers event) c.args.text.now.items c.push_line.new.into.items (event_named valid.view (event_by_numbers event)) c.push_line.result
    (named_numbered valid c.whole.ensures c.known.ensures event c.requires.named) (named_printable valid c.whole.ensures c.known.ensures event c.requires.named) c.push_line.ensures.small c.push_line.ensures.text
