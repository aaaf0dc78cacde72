-- the lists of the streams so far
use Rattle.topo_forms.specs.View.{stream_replicas}
use Rattle.inbox.proofs.PlacesMade.{HasCounted}
use Rattle.inbox.proofs.places.list_count.Given as goal

abbrev pub invariant-loop-stream : goal.invariant-loop-stream
invariant-loop-stream l = HasCounted (stream_replicas l.valid.view) l.stream l.count
