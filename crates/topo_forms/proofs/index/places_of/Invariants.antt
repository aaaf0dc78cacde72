use Rattle.std.proofs.Common.{map, take}
use Rattle.topo_forms.specs.Code.Index.{Places}
use Rattle.topo_forms.proofs.index.places_of.Given as goal

abbrev pub invariant-loop-place : goal.invariant-loop-place
invariant-loop-place l = Places (map (λ name. name.now) (take l.place l.names)) l.places
