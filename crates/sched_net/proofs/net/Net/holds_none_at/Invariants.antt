-- the replicas so far hold nothing
use Rattle.std.proofs.Common.{◌<◌, ℕ}
use Rattle.inbox.specs.Completeness.{held_count_at}
use Rattle.inbox.specs.Wiring.{wiring_of}
use Rattle.sched_net.specs.Reading.{IsRead}
use Rattle.sched_net.proofs.net.Net.holds_none_at.Given as goal

abbrev pub invariant-loop-replica : goal.invariant-loop-replica
invariant-loop-replica g l = (r : ℕ) → r < l.replica → IsRead l.self.valid.now.view l.self.books (λ given x. held_count_at (wiring_of l.self.valid.now.view) x l.component r) 0
