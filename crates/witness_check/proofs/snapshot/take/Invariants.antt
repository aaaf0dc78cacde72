-- the streams so far
use Rattle.witness_check.specs.Difference.{stream_contents}
use Rattle.witness_check.proofs.Readings.{HasSoFar}
use Rattle.witness_check.proofs.snapshot.take.Given as goal

abbrev pub invariant-loop-stream : goal.invariant-loop-stream
invariant-loop-stream g l = HasSoFar l.valid.view l.net.books (stream_contents l.valid.view) l.stream l.streams.items
