use Rattle.std.proofs.Common.{◌∙◌}
use Rattle.sched_run.proofs.NamesLemmas.{take_numbered}
use Rattle.sched_run.proofs.PrintableNames.{printable_take}
use Rattle.sched_run.proofs.naming.take_of.Goals as goal

pub returns-clause-event : goal.returns-clause-event
returns-clause-event c =
    take_numbered c.args.valid.now.view c.args.component c.args.replica c.in_ok-copy.field-0 c.known.ensures c.requires (c.in_ok-copy.ensures ∙ c.component_name.ensures)

pub returns-clause-printable : goal.returns-clause-printable
returns-clause-printable c =
    printable_take c.args.valid.now c.whole.ensures c.args.component c.requires c.in_ok-copy.field-0 (c.in_ok-copy.ensures ∙ c.component_name.ensures)
