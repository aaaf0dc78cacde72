use Rattle.std.proofs.Common.{◌≡◌, map, take, Some}
use Rattle.sched_net.specs.Bench.{fits_kind}
use Rattle.sched_net.proofs.bench.which_fit.Given as goal

abbrev pub invariant-loop-shell : goal.invariant-loop-shell
invariant-loop-shell g l = l.fit.items ≡ map (λ b. fits_kind (Some l.program) ((goal.Component-dyn g (b.vtable, b.value)).kind b.value)) (take l.shell-index l.bench)
