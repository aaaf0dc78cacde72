use Rattle.std.proofs.Common.{◌*◌, get_or, refl, ap, add-one, arith}
use Rattle.sched_turns.specs.Code.Levels.{halved}
use Rattle.sched_turns.proofs.LevelsLemmas.{at_pair, size-le-sum, sum-halved}
use Rattle.sched_turns.proofs.levels.Level.pair_at.Goals as goal

pub overflow_add-result : goal.overflow_add-result
overflow_add-result c =
    let both = at_pair c.args.self.now c.args.pair (2 * c.args.pair) refl in
    let next = ap (λ k. get_or c.args.self.now k 0) (add-one (2 * c.args.pair)) in
    omega (arith, c.size_at.ensures, c.size_at-2.ensures, both, next, size-le-sum (halved c.args.self.now) c.args.pair, sum-halved c.args.self.now, c.requires.fits)

pub returns : goal.returns
returns c =
    let both = at_pair c.args.self.now c.args.pair (2 * c.args.pair) refl in
    let next = ap (λ k. get_or c.args.self.now k 0) (add-one (2 * c.args.pair)) in
    omega (arith, c.size_at.ensures, c.size_at-2.ensures, both, next)
