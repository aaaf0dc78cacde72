use Rattle.std.proofs.Common.{◌∙◌, ap}
use Rattle.sched_text.specs.declared.event.Sent.{Sent}
use Rattle.inbox.specs.Events.{Part}
use Rattle.topo_forms.specs.View.{port_at}
use Rattle.sched_run.proofs.NamesLemmas.{order_numbered}
use Rattle.sched_run.proofs.PrintableNames.{printable_message}
use Rattle.sched_run.proofs.naming.order_of.Goals as goal

pub returns-clause-event : goal.returns-clause-event
returns-clause-event c =
    order_numbered c.args.valid.now c.whole.ensures c.known.ensures c.args.component c.args.part.now c.requires c.in_ok-sent_of.field-0 c.in_ok-copy.field-0 c.in_ok-copy-2.field-0
    c.in_ok-sent_of.ensures (c.in_ok-copy.ensures ∙ c.component_name.ensures) (c.in_ok-copy-2.ensures ∙ c.port_name.ensures ∙ ap (λ (p : Part). (port_at c.args.valid.now.view c.args.component p.port).name) c.part.view_is)

pub returns-clause-printable : goal.returns-clause-printable
returns-clause-printable c =
    printable_message c.args.valid.now c.whole.ensures c.args.component c.args.part.now c.requires c.in_ok-sent_of.field-0.stream c.in_ok-copy.field-0 c.in_ok-copy-2.field-0
    (ap (λ (s : Sent). s.stream) c.in_ok-sent_of.ensures) (c.in_ok-copy.ensures ∙ c.component_name.ensures) (c.in_ok-copy-2.ensures ∙ c.port_name.ensures ∙ ap (λ (p : Part). (port_at c.args.valid.now.view c.args.component p.port).name) c.part.view_is)
