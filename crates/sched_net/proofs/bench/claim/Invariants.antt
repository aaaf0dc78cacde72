use Rattle.std.proofs.Common.{◌≡◌, ℕ, ◌<◌, ◌&&◌, false, get_or}
use Rattle.sched_net.proofs.bench.claim.Given as goal

abbrev pub invariant-loop-i : goal.invariant-loop-i
invariant-loop-i l = record {
  same : l.free.items ≡ l.fn.free.items;
  none : (k : ℕ) → k < l.i → (get_or l.fn.free.items k false && get_or l.fit k false) ≡ false;
}
