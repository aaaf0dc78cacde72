-- the places so far
use Rattle.topo_forms.specs.View.{replicas_of}
use Rattle.inbox.proofs.PlacesMade.{HasPlaces}
use Rattle.inbox.proofs.places.instance_places.Given as goal

abbrev pub invariant-loop-component : goal.invariant-loop-component
invariant-loop-component l = HasPlaces (replicas_of l.valid.view) l.component l.places.items l.next
