-- the counters say what they said
use Rattle.std.proofs.Common.{◌≡◌, ◌<◌, ◌≤◌, ◌+◌, ◌-◌, ℕ, length}
use Rattle.messages.specs.PartitionCounts.{have_at, need_at}
use Rattle.messages.proofs.counter.make_room.Given as goal

abbrev pub invariant-loop-counts : goal.invariant-loop-counts
invariant-loop-counts l = record {
  have : (n : ℕ) → have_at l.counts.items n ≡ have_at l.fn.counts.items n;
  need : (n : ℕ) → need_at l.counts.items n ≡ need_at l.fn.counts.items n;
  few : (most : ℕ) → l.number < most → length l.fn.counts.items ≤ most → length l.counts.items ≤ most;
}

abbrev pub decreases-loop-counts : goal.decreases-loop-counts
decreases-loop-counts l = l.number + 1 - length l.counts.items
