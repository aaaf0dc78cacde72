use Rattle.std.proofs.Common.{◌≡◌, ◌∙◌, [], ap, replicate, arith}
use Rattle.sched_run.proofs.tables.unheard.Goals as goal

pub returns : goal.returns
returns c =
    let all : c.loop.counter ≡ c.args.instances = omega (arith, c.loop-test.false, c.loop.auto.counter-end) in
    c.loop.invariant ∙ ap (λ n. replicate n (replicate c.args.streams [])) all
