use Rattle.std.proofs.Common.{◌∙◌, ap, sym}
use Rattle.std.specs.Option.{option_copied}
use Rattle.sched_net.proofs.HeldSeen.{held_found, held_missing}
use Rattle.sched_net.proofs.net.Net.held.Goals as goal

pub returns-in-Some : goal.returns-in-Some
returns-in-Some g c given steps stand =
    held_found c.args.self.now.valid.now.view given steps c.args.self.now.books stand c.args.component c.args.replica c.in-Some.seated.now c.held_by.result
    (sym c.seat.ensures ∙ ap option_copied c.in-Some.is) c.held_by.ensures

pub returns-in-None : goal.returns-in-None
returns-in-None g c given steps stand =
    held_missing c.args.self.now.valid.now.view given steps c.args.self.now.books stand c.args.component c.args.replica
    (sym c.seat.ensures ∙ ap option_copied c.in-None.is)
