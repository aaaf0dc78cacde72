use Rattle.std.proofs.Common.{◌≡◌, drop}
use Rattle.blz_value.specs.Closure as spec
use Rattle.blz_value.proofs.closing.grown.Given as goal

abbrev pub invariant-loop-fd : goal.invariant-loop-fd
invariant-loop-fd l = spec.grown (drop l.fd-index l.fds) l.reached.bits ≡ spec.grown l.fds l.initial.reached.bits
