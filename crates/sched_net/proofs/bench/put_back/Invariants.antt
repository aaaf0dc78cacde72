use Rattle.std.proofs.Common.{◌≡◌, ◌++◌, vec_capacity}
use Rattle.sched_net.proofs.bench.put_back.Given as goal

abbrev pub invariant-loop-shell : goal.invariant-loop-shell
invariant-loop-shell g l = record {
  items : l.bench.items ≡ l.fn.bench.items ++ l.yielded;
  room : vec_capacity l.bench ≡ vec_capacity l.fn.bench;
}
