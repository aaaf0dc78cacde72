use Rattle.std.proofs.Common.{◌∙◌, ap, sym}
use Rattle.topo_forms.specs.View.{is_order_mode}
use Rattle.sched_net.proofs.FirstSeats.{hears_in, inbox_first}
use Rattle.sched_net.proofs.seating.ear_of.Goals as goal

pub returns-in_ok-inbox-in-Free : goal.returns-in_ok-inbox-in-Free
returns-in_ok-inbox-in-Free c = λ l.
    inbox_first c.args.valid.now.view c.args.component c.args.replica l c.in_ok-inbox-in-Free.inbox c.new.result
    (ap is_order_mode (sym c.mode.ensures) ∙ hears_in c.mode.result c.in-Free.is)
    c.in_ok-inbox-in-Free.ensures.heard c.in_ok-inbox-in-Free.ensures.kept c.in_ok-inbox-in-Free.ensures.feeds c.new.ensures
