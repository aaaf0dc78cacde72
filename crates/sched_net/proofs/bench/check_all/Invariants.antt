use Rattle.std.proofs.Common.{◌≡◌, drop, length}
use Rattle.sched_net.specs.Bench.{fits_component, first_short}
use Rattle.sched_net.specs.Code.Flags.{flagged}
use Rattle.sched_net.proofs.bench.check_all.Given as goal

abbrev pub invariant-loop-i : goal.invariant-loop-i
invariant-loop-i g l = record {
  flags : length l.free.items ≡ length l.bench;
  so_far : first_short (fits_component l.valid.view (λ b. (goal.Component-dyn g (b.vtable, b.value)).kind b.value)) l.wanted l.bench
      ≡ first_short (fits_component l.valid.view (λ b. (goal.Component-dyn g (b.vtable, b.value)).kind b.value)) (drop l.i l.wanted) (flagged l.free.items l.bench);
}
