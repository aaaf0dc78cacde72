use Rattle.std.proofs.Common.{arith}
use Rattle.sched_turns.specs.Code.Levels.{halved}
use Rattle.sched_turns.proofs.LevelsLemmas.{inside, length-halved, goes-left, goes-right}
use Rattle.sched_turns.proofs.levels.Level.down.Goals as goal

pub overflow_mul-pair : goal.overflow_mul-pair
overflow_mul-pair c =
    omega (arith, c.bounded.ensures, inside (halved c.args.self.now) c.args.pair c.args.number c.requires, (length-halved c.args.self.now).1)

pub overflow_mul-result-else-number-left : goal.overflow_mul-result-else-number-left
overflow_mul-result-else-number-left c =
    omega (arith, c.bounded.ensures, inside (halved c.args.self.now) c.args.pair c.args.number c.requires, (length-halved c.args.self.now).1)

pub overflow_add-result : goal.overflow_add-result
overflow_add-result c =
    omega (arith, c.bounded.ensures, inside (halved c.args.self.now) c.args.pair c.args.number c.requires, (length-halved c.args.self.now).1)

pub returns-then-number-left : goal.returns-then-number-left
returns-then-number-left c =
    goes-left c.args.self.now c.args.pair c.args.number (omega (arith, c.size_at-left.ensures, c.if-number-left.true))

pub returns-else-number-left : goal.returns-else-number-left
returns-else-number-left c =
    goes-right c.args.self.now c.args.pair c.args.number c.size_at-left.result c.requires c.size_at-left.ensures c.if-number-left.false
