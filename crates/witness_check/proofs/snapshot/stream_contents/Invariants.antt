-- the replicas so far
use Rattle.inbox.specs.Executions.{contents}
use Rattle.inbox.specs.Wiring.{wiring_of}
use Rattle.witness_check.proofs.Readings.{HasSoFar}
use Rattle.witness_check.proofs.snapshot.stream_contents.Given as goal

abbrev pub invariant-loop-replica : goal.invariant-loop-replica
invariant-loop-replica g l = HasSoFar l.valid.view l.net.books (λ given x. contents (wiring_of l.valid.view) given x l.stream) l.replica l.replicas.items
