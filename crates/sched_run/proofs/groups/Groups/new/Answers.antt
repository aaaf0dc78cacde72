use Rattle.std.proofs.Common.{◌≡◌, ◌∙◌, [], ap, replicate, arith}
use Rattle.sched_run.proofs.groups.Groups.new.Goals as goal

pub returns : goal.returns
returns c =
    let all : c.loop.counter ≡ c.args.count = omega (arith, c.loop-test.false, c.loop.auto.counter-end) in
    c.loop.invariant ∙ ap (λ n. replicate n []) all
