use Rattle.std.proofs.Common.{ap, length, arith}
use Rattle.sched_turns.proofs.levels.Level.bounded.Goals as goal

pub returns : goal.returns
returns c =
    let v = c.self.inside.sizes in
    omega (arith, v.ok.0, v.ok.1, v.small, ap length c.self.view_is)
