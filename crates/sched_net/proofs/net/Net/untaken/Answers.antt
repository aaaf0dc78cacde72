use Rattle.std.proofs.Common.{arith}
use Rattle.sched_net.proofs.LeftSeen.{few_logged, log_found}
use Rattle.sched_net.proofs.net.Net.untaken.Goals as goal

pub returns-clause-few : goal.returns-clause-few
returns-clause-few g c =
    let stand = c.requires.runs.stand in
    let few = few_logged c.args.self.now.valid.now.view c.requires.runs.given c.requires.runs.steps c.args.self.now.books stand c.bounded.ensures.valid c.args.component c.requires.component c.index.result.now c.len.ensures.once
    (log_found c.args.self.now.valid.now.view c.requires.runs.given c.requires.runs.steps c.args.self.now.books stand c.args.component c.index.result.now c.requires.component c.index.ensures) c.known.ensures.pool (c.bounded.ensures.ports c.args.component c.requires.component) in
    omega (arith, few, c.saturating_sub.ensures, c.len.ensures.count)
