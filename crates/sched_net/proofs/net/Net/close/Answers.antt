use Rattle.std.proofs.Common.{map}
use Rattle.sched_net.proofs.ForgettingLemmas.{last_tables}
use Rattle.sched_net.proofs.net.Net.close.Goals as goal

pub returns-in_err-reserve-clause-tables : goal.returns-in_err-reserve-clause-tables
returns-in_err-reserve-clause-tables g c = last_tables c.args.self.valid.now.view (map (λ b. (goal.Component-dyn g (b.vtable, b.value)).program b.value) c.args.self.shells.items) (map (λ b. (goal.Component-dyn g (b.vtable, b.value)).kept b.value) c.args.self.shells.items) c.args.self.books

pub returns-clause-tables : goal.returns-clause-tables
returns-clause-tables g c = last_tables c.args.self.valid.now.view (map (λ b. (goal.Component-dyn g (b.vtable, b.value)).program b.value) c.args.self.shells.items) (map (λ b. (goal.Component-dyn g (b.vtable, b.value)).kept b.value) c.args.self.shells.items) c.args.self.books
