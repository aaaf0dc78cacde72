-- the places so far
use Rattle.topo_forms.specs.View.{stream_replicas}
use Rattle.inbox.proofs.PlacesMade.{HasPlaces}
use Rattle.inbox.proofs.places.list_places.Given as goal

abbrev pub invariant-loop-stream : goal.invariant-loop-stream
invariant-loop-stream l = HasPlaces (stream_replicas l.valid.view) l.stream l.places.items l.next
