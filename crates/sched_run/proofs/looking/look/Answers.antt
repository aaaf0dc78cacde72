use Rattle.std.proofs.Common.{subst, sym}
use Rattle.std.specs.Prelude.{OnOk}
use Rattle.sched_run.specs.Code.Looking.{LooksAt}
use Rattle.sched_run.proofs.looking.look.Goals as goal

pub returns-in-Deliver : goal.returns-in-Deliver
returns-in-Deliver c = subst (λ lane. OnOk c.look_at_feed.result (LooksAt c.args.valid.now.view c.args.books.now lane c.look_at_feed.new.window)) (sym c.in-Deliver.is) c.look_at_feed.ensures

pub returns-in-Order : goal.returns-in-Order
returns-in-Order c = subst (λ lane. OnOk c.look_at_log.result (LooksAt c.args.valid.now.view c.args.books.now lane c.look_at_log.new.window)) (sym c.in-Order.is) c.look_at_log.ensures
